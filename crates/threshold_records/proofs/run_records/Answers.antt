-- `run_records` meets its contract: the room begins with the list's bytes, and those run.
use Prim.Native.Nat.{ℕ}
use lib.ListN.{replicate, length-replicate}
use Rattle.records.proofs.Ended.{calls-end}
use Rattle.sets.specs.Groups.{thresholds}
use Rattle.threshold_records.proofs.run_records.Goals as goal

pub returns : goal.returns
returns c =
    let a = c.args in
    let e = calls-end (replicate 16384 0) a.calls.now c.pack.new.room (length-replicate {A = ℕ} 16384 0) c.pack.ensures (thresholds a.image.now) a.faulty a.state.now a.answers.now
    c.run_packed.result c.run_packed.new.state c.run_packed.new.answers c.run_packed.ensures in
    record { answer = e.0; states = e.1; bytes = e.2 }
