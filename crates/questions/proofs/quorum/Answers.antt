-- `quorum` meets its contract: the table's refusal, or the answer of its rows.
use mathlib.Core.Path.{sym, ◌∙◌}
use Rattle.refusals.proofs.Passed.{passed_on}
use Rattle.questions.proofs.Answers.{quorum-refused, quorum-rows}
use Rattle.sets.proofs.Groups.{checked-rows, as_rows}
use Rattle.sets.specs.Groups.{lists}
use Rattle.questions.proofs.quorum.Goals as goal

pub returns-in_err-check : goal.returns-in_err-check
returns-in_err-check c =
    let a = c.args in passed_on c.from_residual.result c.from_residual.ensures.1 ∙ (quorum-refused (lists a.table.now) (sym c.check.ensures ∙ c.in_err-check.was) a.set)

pub quorum_of-requires : goal.quorum_of-requires
quorum_of-requires c =
    let a = c.args in checked-rows a.table.now (sym c.check.ensures ∙ c.in_ok-check.was)

pub returns : goal.returns
returns c =
    let a = c.args in c.quorum_of.ensures ∙ quorum-rows (as_rows a.table.now (sym c.check.ensures ∙ c.in_ok-check.was)) a.set
