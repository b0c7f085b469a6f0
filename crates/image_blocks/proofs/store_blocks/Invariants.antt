-- `store_blocks` meets its contract: after i turns the room begins with the blocks of the first i sites, whose counts fit.
use Prim.Native.Nat.{◌*◌, ◌≤◌}
use mathlib.Core.List.{◌++◌}
use mathlib.Core.Path.{◌≡◌}
use lib.ListN.{length, drop}
use Rattle.image_blocks.proofs.Store.{stores_to}
use Rattle.image_blocks.proofs.store_blocks.Given as goal

abbrev pub invariant-loop-i : goal.invariant-loop-i
invariant-loop-i l =
    (l.i ≤ l.n) × (length l.room ≡ length l.initial.room) × (l.room ≡ stores_to l.n l.table l.i ++ drop (512 * l.i) l.initial.room)
