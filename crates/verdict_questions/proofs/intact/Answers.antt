-- `intact` meets its contract: the table's refusal, or the answer of its rows.
use mathlib.Core.Path.{sym, ◌∙◌}
use Rattle.refusals.proofs.Passed.{passed_on}
use Rattle.questions.proofs.Answers.{intact-refused, intact-rows}
use Rattle.sets.proofs.Groups.{checked-rows, as_rows}
use Rattle.sets.specs.Groups.{lists}
use Rattle.verdict_questions.proofs.intact.Goals as goal

pub returns-in_err-check : goal.returns-in_err-check
returns-in_err-check c =
    let a = c.args in passed_on c.from_residual.result c.from_residual.ensures.1 ∙ (intact-refused (lists a.table.now) (sym c.check.ensures ∙ c.in_err-check.was) a.faulty)

pub intact_of-requires : goal.intact_of-requires
intact_of-requires c =
    let a = c.args in checked-rows a.table.now (sym c.check.ensures ∙ c.in_ok-check.was)

pub returns : goal.returns
returns c =
    let a = c.args in c.intact_of.ensures ∙ intact-rows (as_rows a.table.now (sym c.check.ensures ∙ c.in_ok-check.was)) a.faulty
