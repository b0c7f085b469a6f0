-- `is_unfilled` meets its contract: one of the bytes before the index is not zero just if their sum is not.
use Prim.Native.Nat.{◌*◌, ◌≤◌}
use mathlib.Core.Bool.{not}
use mathlib.Core.Path.{◌≡◌}
use lib.Dec.{eqb}
use lib.ListN.{get_or}
use Rattle.ground.specs.Search.{some}
use Rattle.journal_block.proofs.is_unfilled.Given as goal

abbrev pub invariant-loop-x : goal.invariant-loop-x
invariant-loop-x l =
    (l.sum ≤ 255 * l.x-index) × (not (eqb l.sum 0) ≡ some l.x-index (λ i. not (eqb (get_or l.rest i 0) 0)))
