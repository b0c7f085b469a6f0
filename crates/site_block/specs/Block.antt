-- One block of the table on file: "Blocks of 512 bytes, one a site, in site order; numbers little-endian."
use Rattle.refusals.specs.Check.{Check}
use Rattle.std.specs.Prelude.{ℕ, ◌+◌, ◌-◌, ◌*◌, Bool, ◌||◌, not, List, [], ◌∷◌, ◌++◌, eqb, get_or}
use Rattle.block.specs.Block.{seal, sealed}
use Rattle.ground.specs.Pieces.{cat}
use Rattle.ground.specs.Search.{some}
use Rattle.le.specs.Le.{digits, field}
use Rattle.refusals.specs.First.{or_else, refuse}
use Rattle.refusals.specs.declared.Refusal.TheVariants.{Sums, Header}
use Rattle.rows.specs.Row.{slice_check, row_check}
use Rattle.rows.specs.Site.{count, slice}

-- "Bytes 0 to 1 site, 2 to 3 n, 4 to 5 slice count, 6 to 7 zero, then the slices of 8 bytes, zeros up to byte 503."
abbrev pub site_field : List ℕ → ℕ
site_field b = field 2 b 0

abbrev pub sites_field : List ℕ → ℕ
sites_field b = field 2 b 2

abbrev pub count_field : List ℕ → ℕ
count_field b = field 2 b 4

abbrev pub zero_field : List ℕ → ℕ
zero_field b = field 2 b 6

abbrev pub slice_field : List ℕ → ℕ → ℕ
slice_field b k = field 8 b (8 + 8 * k)

-- 3: "site is not the block's place, n is not the number of blocks, or bytes 6 to 7 not zero"; the site asked for is what the block is to hold, in an image
-- the one of its place
unfoldable pub misheaded : ℕ → ℕ → List ℕ → Bool
misheaded n site b = not (eqb (site_field b) site) || (not (eqb (sites_field b) n) || not (eqb (zero_field b) 0))

-- 8: "filler not zero": a byte behind the last slice, 8 + 8 * count to 503
unfoldable pub block_unfilled : List ℕ → Bool
unfolding some
block_unfilled b = let from = 8 + 8 * count_field b in some (504 - from) (λ j. not (eqb (get_or b (from + j) 0) 0))

-- "4, each slice 5 then 6, then 8": the owner's slices, as the block b in a table of n sites holds them; a refusal carries the place
unfoldable pub block_row_check : ℕ → ℕ → ℕ → List ℕ → Check
unfolding block_unfilled row_check slice_check
block_row_check n owner place b = row_check (slice_check n owner place (slice_field b)) place (count_field b) (block_unfilled b)

-- "block by block 2, 3, 4, each slice 5 then 6, then 8": the block b of a site
unfoldable pub block_check : ℕ → ℕ → ℕ → List ℕ → Check
unfolding misheaded block_row_check
block_check n site place b =
    or_else (refuse (not (sealed b)) (Sums place))
    (or_else (refuse (misheaded n site b) (Header place))
    (block_row_check n site place b))

-- "Read into memory, a site takes 63 64-bit numbers: the count, then 62 places"
unfoldable pub load : List ℕ → List ℕ
load b = count_field b ∷ cat (λ k. slice_field b k ∷ []) 62

-- the same bytes as they are written: "Bytes 0 to 1 site, 2 to 3 n, 4 to 5 slice count, 6 to 7 zero"
unfoldable pub head : ℕ → ℕ → ℕ → List ℕ
head i n many = digits 2 i ++ (digits 2 n ++ (digits 2 many ++ digits 2 0))

-- "then the slices of 8 bytes, zeros up to byte 503": the first k of a site's 62 places, of which the unused are zero
unfoldable pub places : List ℕ → ℕ → List ℕ
places m k = cat (λ j. digits 8 (slice m j)) k

-- the block of site i, whose 63 numbers are m, in a table of n sites: its first 504 bytes, and the block with its check
unfoldable pub body : ℕ → ℕ → List ℕ → List ℕ
body n i m = head i n (count m) ++ places m 62

unfoldable pub store : ℕ → ℕ → List ℕ → List ℕ
store n i m = seal (body n i m)
