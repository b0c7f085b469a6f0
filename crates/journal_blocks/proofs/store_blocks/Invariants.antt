-- `store_blocks` meets its contract: after i turns the room begins with the first i blocks.
use Prim.Native.Nat.{ℕ, ◌*◌}
use mathlib.Core.List.{List, ◌++◌}
use mathlib.Core.Path.{◌≡◌}
use lib.ListN.{length, drop}
use Rattle.ground.specs.Pieces.{cat, part}
use Rattle.journal_block.specs.Block.{journal_block}
use Rattle.journal_blocks.proofs.store_blocks.Given as goal

abbrev block : List ℕ → ℕ → List ℕ
block list i = journal_block i (part 500 i list)

abbrev pub invariant-loop-i : goal.invariant-loop-i
invariant-loop-i l =
    (length l.room ≡ length l.initial.room) × (l.room ≡ cat (block l.list) l.i ++ drop (512 * l.i) l.initial.room)
