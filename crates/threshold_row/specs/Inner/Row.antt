-- A site's sets as a row of 63 numbers: 64 more than their count, so that no row of slices begins so; then the masks of plain sites of 49 sets; then 13 numbers
-- with threshold and number of inner sets, 16 bits a set, four sets a number.
use Rattle.std.specs.Prelude.{ℕ, ◌+◌, ◌-◌, ◌*◌, ◌/◌, ◌%◌, ◌^◌, List, [], ◌∷◌, ◌++◌, get_or}
use Rattle.ground.specs.Pieces.{cat}
use Rattle.le.specs.Le.{field}
use Rattle.site_block.specs.Block.{count_field}
use Rattle.threshold_sets.specs.Met.{ThresholdSets}

-- threshold and 256 times the number of inner sets, of set i in the row m
abbrev pub pair_in : List ℕ → ℕ → ℕ
pair_in m i = get_or m (50 + i / 4) 0 / 2 ^ (16 * (i % 4)) % 65536

-- the sets that the row m holds
abbrev pub sets_of : List ℕ → ThresholdSets
sets_of m = record {
  count = get_or m 0 0 - 64;
  threshold = λ i. pair_in m i % 256;
  inner = λ i. pair_in m i / 256;
  plain = λ i. get_or m (1 + i) 0;
}

-- the same of set i in the block b, and of four sets in one number
abbrev pub pair_at : List ℕ → ℕ → ℕ
pair_at b i = field 2 b (8 + 10 * i)

abbrev pub four_at : List ℕ → ℕ → ℕ
four_at b k = pair_at b (4 * k) + (65536 * pair_at b (4 * k + 1) + (4294967296 * pair_at b (4 * k + 2) + 281474976710656 * pair_at b (4 * k + 3)))

-- the row of the sets that the block b holds; its first 1 + k numbers are the count and k masks
unfoldable pub masks_of : List ℕ → ℕ → List ℕ
masks_of b k = (64 + count_field b) ∷ cat (λ i. field 8 b (10 + 10 * i) ∷ []) k

unfoldable pub sets_row : List ℕ → List ℕ
unfolding masks_of
sets_row b = masks_of b 49 ++ (cat (λ k. four_at b k ∷ []) 12 ++ (pair_at b 48 ∷ []))
