-- A journal as its blocks, and the list of calls that it keeps: "Every block but the last holds 125, the last 1 to 125; an empty list is an empty file."
use Rattle.std.specs.Prelude.{ℕ, ◌+◌, ◌/◌, List, length}
use Rattle.ground.specs.Pieces.{cat, part}
use Rattle.journal_block.specs.Block.{journal_block_check, calls_in, journal_block}
use Rattle.refusals.specs.First.{first}
use Rattle.refusals.specs.Check.{Check}

-- the blocks of a file of so many bytes
abbrev pub blocks_in : ℕ → ℕ
blocks_in bytes = bytes / 512

-- "then per block 2, 20 for number or count, 8"
unfoldable pub journal_blocks_check : ℕ → List ℕ → Check
unfolding journal_block_check first
journal_blocks_check k journal = first (λ i. journal_block_check k i (part 512 i journal)) k

-- the list that a journal keeps: the calls of its blocks, one block after the other
unfoldable pub list_of : List ℕ → List ℕ
unfolding cat
list_of journal = cat (λ i. calls_in (part 512 i journal)) (blocks_in (length journal))

-- the blocks that a list of so many bytes takes: 125 calls are 500 bytes
abbrev pub blocks_for : ℕ → ℕ
blocks_for bytes = (bytes + 499) / 500

-- the journal that keeps a list: each block the next 125 calls, the last those that are left
unfoldable pub journal_of : List ℕ → List ℕ
unfolding cat journal_block
journal_of list = cat (λ i. journal_block i (part 500 i list)) (blocks_for (length list))
