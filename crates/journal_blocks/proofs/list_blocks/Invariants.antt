-- `list_blocks` meets its contract: after i turns the room begins with the calls of the first i blocks.
use Prim.Native.Nat.{ℕ, ◌≤◌}
use mathlib.Core.List.{List, ◌++◌}
use mathlib.Core.Path.{◌≡◌}
use lib.ListN.{length, drop}
use Rattle.ground.specs.Pieces.{cat, part}
use Rattle.journal_block.specs.Block.{calls_in}
use Rattle.journal_blocks.specs.Journal.{list_of}
use Rattle.journal_blocks.proofs.list_blocks.Given as goal

abbrev front : List ℕ → ℕ → List ℕ
front journal i = cat (λ j. calls_in (part 512 j journal)) i

abbrev pub invariant-loop-i : goal.invariant-loop-i
invariant-loop-i l =
    (l.at ≡ length (front l.journal l.i)) × (l.at ≤ length (list_of l.journal)) × (length l.room ≡ length l.initial.room) × (l.room ≡ front l.journal l.i ++ drop l.at l.initial.room)
