-- `together` meets its contract: of the numbers so far one is not inside a set if all of them together are not.
use Prim.Native.Nat.{ℕ}
use mathlib.Core.Bool.{not}
use mathlib.Core.Path.{◌≡◌}
use Rattle.ground.specs.Search.{some}
use Rattle.masks.specs.Mask.{within}
use Rattle.rules.specs.State.{get}
use Rattle.soundness.proofs.together.Given as goal

abbrev pub invariant-loop-number : goal.invariant-loop-number
invariant-loop-number l =
    (u : ℕ) → not (within l.any u) ≡ some l.number-index (λ j. not (within (get l.state j) u))
