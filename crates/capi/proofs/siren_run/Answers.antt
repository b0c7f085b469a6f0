-- `siren_run` meets its contract: it says what the library answers, and the rooms are as the library leaves them.
use Rattle.said_votes.proofs.Laws.{run-said}
use Rattle.sets.specs.Groups.{lists}
use Rattle.capi.proofs.siren_run.Goals as goal

pub returns : goal.returns
returns c =
    let a = c.args in let e = c.run.ensures in let r = run-said (lists a.table.now) a.faulty a.calls.now a.state.now a.answers.now e.answer (c.number.ensures.answer, c.number.ensures.memory) e.states
    e.bytes in record { answer = r.0; told = r.1.0; states = r.1.1.0; bytes = r.1.1.1 }
