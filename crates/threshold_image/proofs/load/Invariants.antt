-- `load` meets its contract: after i turns the room begins with the rows of the first i blocks.
use Prim.Native.Nat.{◌*◌, ◌≤◌}
use mathlib.Core.List.{◌++◌}
use mathlib.Core.Path.{◌≡◌}
use lib.ListN.{length, drop}
use Rattle.threshold_image.specs.Inner.{rows_of}
use Rattle.threshold_image.proofs.load.Given as goal

abbrev pub invariant-loop-i : goal.invariant-loop-i
invariant-loop-i l =
    (l.i ≤ l.n) × (length l.room ≡ length l.initial.room) × (l.room ≡ rows_of l.i l.image ++ drop (63 * l.i) l.initial.room)
