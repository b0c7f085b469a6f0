-- `shared` meets its contract: the table's refusal, or the answer of its rows.
use mathlib.Core.Path.{sym, ◌∙◌}
use Rattle.refusals.proofs.Passed.{passed_on}
use Rattle.questions.proofs.Answers.{shared-refused, shared-rows}
use Rattle.sets.proofs.Groups.{checked-rows, as_rows}
use Rattle.sets.specs.Groups.{lists}
use Rattle.verdict_questions.proofs.shared.Goals as goal

pub returns-in_err-check : goal.returns-in_err-check
returns-in_err-check c =
    let a = c.args in passed_on c.from_residual.result c.from_residual.ensures.1 ∙ (shared-refused (lists a.table.now) (sym c.check.ensures ∙ c.in_err-check.was))

pub shared_of-requires : goal.shared_of-requires
shared_of-requires c =
    let a = c.args in checked-rows a.table.now (sym c.check.ensures ∙ c.in_ok-check.was)

pub returns : goal.returns
returns c =
    let a = c.args in c.shared_of.ensures ∙ shared-rows (as_rows a.table.now (sym c.check.ensures ∙ c.in_ok-check.was))
