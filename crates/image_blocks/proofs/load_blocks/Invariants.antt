-- `load_blocks` meets its contract: after i turns the room begins with the sites of the first i blocks.
use Prim.Native.Nat.{◌*◌, ◌≤◌}
use mathlib.Core.List.{◌++◌}
use mathlib.Core.Path.{◌≡◌}
use lib.ListN.{length, drop}
use Rattle.image_blocks.specs.Image.{loads}
use Rattle.image_blocks.proofs.load_blocks.Given as goal

abbrev pub invariant-loop-i : goal.invariant-loop-i
invariant-loop-i l =
    (l.i ≤ l.n) × (length l.room ≡ length l.initial.room) × (l.room ≡ loads l.i l.image ++ drop (63 * l.i) l.initial.room)
