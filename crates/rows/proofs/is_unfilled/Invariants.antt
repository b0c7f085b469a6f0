-- `is_unfilled` meets its contract: one of the unused places before j is not zero just if all of them together are not.
use Prim.Native.Nat.{◌+◌, ◌≤◌}
use mathlib.Core.Bool.{not}
use mathlib.Core.Path.{◌≡◌}
use lib.Dec.{eqb}
use Rattle.ground.specs.Search.{some}
use Rattle.rows.specs.Site.{slice}
use Rattle.rows.proofs.is_unfilled.Given as goal

abbrev pub invariant-loop-j : goal.invariant-loop-j
invariant-loop-j l =
    (l.j ≤ l.left) × (not (eqb l.any 0) ≡ some l.j (λ i. not (eqb (slice l.m (l.many + i)) 0)))
