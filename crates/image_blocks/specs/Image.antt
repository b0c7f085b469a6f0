-- The table on file: "Blocks of 512 bytes, one a site, in site order; numbers little-endian."
use Rattle.refusals.specs.Check.{Check}
use Rattle.std.specs.Prelude.{ℕ, ◌%◌, Bool, ◌||◌, not, List, eqb, ltb}
use Rattle.ground.specs.Pieces.{cat, part}
use Rattle.refusals.specs.First.{first}
use Rattle.site_block.specs.Block.{block_check, load, store}
use Rattle.table.specs.Table.{site_of}

-- 1: "image length zero, not a multiple of 512, or over 32,768"
unfoldable pub image_misshapen : ℕ → Bool
image_misshapen length = eqb length 0 || (not (eqb (length % 512) 0) || ltb 32768 length)

-- "Each block is checked as a part of the image, where it begins." Its site is its place: "one a site, in site order"
unfoldable pub blocks_check : ℕ → List ℕ → Check
unfolding block_check first
blocks_check n image = first (λ i. block_check n i i (part 512 i image)) n

-- "Read into memory, a site takes 63 64-bit numbers": all blocks
unfoldable pub loads : ℕ → List ℕ → List ℕ
loads n image = cat (λ i. load (part 512 i image)) n

-- and as they are written
unfoldable pub stores : ℕ → List ℕ → List ℕ
stores n t = cat (λ i. store n i (site_of t i)) n
