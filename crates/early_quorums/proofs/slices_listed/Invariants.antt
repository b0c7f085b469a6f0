-- `slices_listed` meets its contract: the first i slices of v are taken; a slice that is no such set ends it, since those behind it are larger.
use Prim.Native.Nat.{◌≤◌}
use Rattle.early_quorums.specs.Inner.{Counted}
use Rattle.early_quorums.proofs.slices_listed.Given as goal

abbrev pub invariant-loop-i : goal.invariant-loop-i
invariant-loop-i l =
    (l.many ≤ 62) × Counted l.table l.v l.i l.sets
