-- `is_unfilled` meets its contract: one of the bytes behind the last set and before `at` is not zero just if all of them together are not.
use Prim.Native.Nat.{◌+◌, ◌-◌, ◌*◌, ◌≤◌}
use mathlib.Core.Bool.{not}
use mathlib.Core.Path.{◌≡◌}
use lib.Dec.{eqb}
use lib.ListN.{get_or}
use Rattle.ground.specs.Search.{some}
use Rattle.threshold_block.proofs.is_unfilled.Given as goal

abbrev pub invariant-loop-at : goal.invariant-loop-at
invariant-loop-at l =
    (8 + 10 * l.many ≤ l.at) × (l.at ≤ 504) × (not (eqb l.any 0) ≡ some (l.at - (8 + 10 * l.many)) (λ j. not (eqb (get_or l.b (8 + 10 * l.many + j) 0) 0)))
