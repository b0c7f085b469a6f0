-- `step` meets its contract: the table's refusal, or the step on its rows.
use mathlib.Core.Path.{sym, ap, ◌∙◌}
use Rattle.refusals.proofs.Passed.{passed_on}
use Rattle.sets.proofs.Groups.{checked-rows, as_rows}
use Rattle.sets.specs.Groups.{lists}
use Rattle.votes.specs.Call.{call}
use Rattle.voting.proofs.StepWays.{step-refused, step-rows, into-rows}
use Rattle.voting.proofs.step.Goals as goal

pub returns-in_err-check : goal.returns-in_err-check
returns-in_err-check c =
    let a = c.args in rw (passed_on c.from_residual.result c.from_residual.ensures.1) (let r = step-refused (lists a.table.now) a.faulty a.state.now (sym c.check.ensures ∙ c.in_err-check.was)
    (call a.kind a.from a.to a.side) in record { answer = r.0; memory = r.1 })

pub step_of-requires : goal.step_of-requires
step_of-requires c =
    let a = c.args in checked-rows a.table.now (sym c.check.ensures ∙ c.in_ok-check.was)

pub returns : goal.returns
returns c =
    let a = c.args in let t = a.table.now in
    let e = sym c.check.ensures ∙ c.in_ok-check.was in
    let d = call a.kind a.from a.to a.side in record { answer = c.step_of.ensures.answer ∙ (step-rows (as_rows t e) a.faulty a.state.now d); memory = c.step_of.ensures.memory ∙ into-rows (as_rows t e) a.faulty a.state.now d }
