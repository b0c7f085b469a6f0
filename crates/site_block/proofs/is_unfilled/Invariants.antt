-- `is_unfilled` meets its contract: a byte of filler is not zero just if an unused place is, and one of those before j is just if all of them together are not zero.
use Prim.Native.Nat.{◌+◌, ◌≤◌}
use mathlib.Core.Bool.{not}
use mathlib.Core.Path.{◌≡◌}
use lib.Dec.{eqb}
use Rattle.ground.specs.Search.{some}
use Rattle.site_block.specs.Block.{slice_field}
use Rattle.site_block.proofs.is_unfilled.Given as goal

abbrev pub invariant-loop-j : goal.invariant-loop-j
invariant-loop-j l =
    (l.j ≤ l.left) × (not (eqb l.any 0) ≡ some l.j (λ i. not (eqb (slice_field l.b (l.many + i)) 0)))
