-- After v turns the room begins with the blocks of the first v sites.
use mathlib.Core.Path.{◌≡◌}
use mathlib.Core.List.{◌++◌}
use Prim.Native.Nat.{◌*◌}
use lib.ListN.{length, drop}
use Rattle.threshold_made.specs.Made.{image_to}
use Rattle.threshold_made.proofs.store_all.Given as goal

abbrev pub invariant-loop-v : goal.invariant-loop-v
invariant-loop-v l =
    (length l.room ≡ length l.initial.room) × (l.room ≡ image_to l.n l.t l.v ++ drop (512 * l.v) l.initial.room)
