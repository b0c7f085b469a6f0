-- `siren_threshold_run_records` meets its contract: it says what the library answers, and the rooms are as the library leaves them.
use Rattle.packing.specs.Pack.{bytes_of}
use Rattle.said_votes.proofs.Laws.{run-said}
use Rattle.sets.specs.Groups.{thresholds}
use Rattle.capi.proofs.thresholds.siren_threshold_run_records.Goals as goal

pub returns : goal.returns
returns c =
    let a = c.args in
    let e = c.run_records.ensures in
    let r = run-said (thresholds a.image.now) a.faulty (bytes_of a.calls.now) a.state.now a.answers.now e.answer (c.number.ensures.answer, c.number.ensures.memory) e.states e.bytes in
    record { answer = r.0; told = r.1.0; states = r.1.1.0; bytes = r.1.1.1 }
