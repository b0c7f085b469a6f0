-- `are_sound` meets its contract: the slices before k are gathered.
use Prim.Native.Nat.{◌≤◌}
use Rattle.rows.specs.Site.{slice}
use Rattle.rows.proofs.Row.{Gathers}
use Rattle.rows.proofs.are_sound.Given as goal

abbrev pub invariant-loop-k : goal.invariant-loop-k
invariant-loop-k l =
    (1 ≤ l.k) × Gathers (slice l.m) l.k l.g.every l.g.some l.g.ascend
