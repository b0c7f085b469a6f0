-- `step_of` meets its contract: what the soundness refuses, or the inner step.
use Rattle.refusals.proofs.Passed.{passed_on}
use Rattle.voting.proofs.StepWays.{stepped-unsound, sound-state, stepped}
use Rattle.rules.proofs.WorkWays.{same-works}
use Rattle.votes.specs.Call.{call}
use Rattle.voting.proofs.step_of.Goals as goal

pub returns-in_err-sound_of : goal.returns-in_err-sound_of
returns-in_err-sound_of c =
    let a = c.args in rw (passed_on c.from_residual.result c.from_residual.ensures.1) (let r = stepped-unsound a.rows.now a.n a.faulty a.state.now c.sound_of.ensures (call a.kind a.from a.to a.side)
    c.in_err-sound_of.was in record { answer = r.0; memory = r.1 })

pub work-requires : goal.work-requires
work-requires c =
    let a = c.args in record { rows = c.requires; sound = sound-state a.rows.now a.n a.faulty a.state.now c.sound_of.ensures c.in_ok-sound_of.was }

pub returns : goal.returns
returns c =
    let a = c.args in let r = stepped a.rows.now a.n a.faulty a.state.now c.sound_of.ensures c.in_ok-sound_of.was
    (same-works c.from.ensures c.from-2.ensures c.from-3.ensures c.from-4.ensures c.work.ensures)
    in record { answer = r.0; memory = r.1 }
