-- `next_inside` meets its contract: no slice from start up to i is inside u.
use Prim.Native.Nat.{ℕ, ◌≤◌, ◌<◌}
use mathlib.Core.Bool.{false}
use mathlib.Core.Path.{◌≡◌}
use Rattle.masks.specs.Mask.{within}
use Rattle.table.specs.Table.{slice_of}
use Rattle.sets.proofs.next_inside.Given as goal

abbrev pub invariant-loop-i : goal.invariant-loop-i
invariant-loop-i l =
    (l.many ≤ 62) × ((k : ℕ) → k < l.i → l.start ≤ k → within (slice_of l.table l.v k) l.u ≡ false)
