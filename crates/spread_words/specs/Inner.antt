-- Words that are handed on: a word's number is a set of the sites 6 to 11, and each word gets what stands in those below it.
use Rattle.std.specs.Prelude.{ℕ, zero, suc, ◌+◌, ◌*◌, ◌<◌, ◌≤◌, List, ◌≡◌, length, get_or, set}
use Rattle.std.specs.Int.Bits.{bit_or}
use Rattle.masks.specs.Mask.{◌∈◌, ◌⊆◌}

-- Eight words f as the sets of three sites: what each has, and those below it

abbrev pub join_two : (ℕ → ℕ) → ℕ → ℕ
join_two f i = bit_or (f i) (f 0)

abbrev pub join_four : (ℕ → ℕ) → ℕ → ℕ → ℕ → ℕ
join_four f i a b = bit_or (bit_or (f i) (join_two f a)) (join_two f b)

unfoldable pub join_eight : (ℕ → ℕ) → ℕ → ℕ
join_eight f zero = f 0
join_eight f (suc zero) = join_two f 1
join_eight f (suc (suc zero)) = join_two f 2
join_eight f (suc (suc (suc zero))) = join_four f 3 1 2
join_eight f (suc (suc (suc (suc zero)))) = join_two f 4
join_eight f (suc (suc (suc (suc (suc zero))))) = join_four f 5 1 4
join_eight f (suc (suc (suc (suc (suc (suc zero)))))) = join_four f 6 2 4
join_eight f (suc (suc (suc (suc (suc (suc (suc i))))))) = bit_or (bit_or (bit_or (f 7) (join_four f 3 1 2)) (join_four f 5 1 4)) (join_four f 6 2 4)

-- the places 1 to k get what g says
unfoldable pub puts : ℕ → (ℕ → ℕ) → (ℕ → ℕ) → List ℕ → List ℕ
puts zero place g words = words
puts (suc k) place g words = set (puts k place g words) (place (suc k)) (g (suc k))

-- the words at eight places, joined
unfoldable pub joins : (ℕ → ℕ) → List ℕ → List ℕ
unfolding puts join_eight
joins place words = puts 7 place (join_eight (λ i. get_or words (place i) 0)) words

-- the first many of the eights of words are joined: word i of eight k is at place k i
pub record Joined (place : ℕ → ℕ → ℕ) (old : List ℕ) (many : ℕ) (words : List ℕ) : Type 0 where
  pub long : length words ≡ 64
  pub done : (k i : ℕ) → k < many → i < 8 → get_or words (place k i) 0 ≡ join_eight (λ y. get_or old (place k y) 0) i
  pub left : (k i : ℕ) → many ≤ k → k < 8 → i < 8 → get_or words (place k i) 0 ≡ get_or old (place k i) 0

-- eights of words beside each other, and eights of every eighth word
abbrev pub near_place : ℕ → ℕ → ℕ
near_place k i = k * 8 + i * 1

abbrev pub far_place : ℕ → ℕ → ℕ
far_place k i = k + i * 8

-- each word has what stood in those below it
pub record Spread (old new : List ℕ) : Type 0 where
  pub long : length new ≡ 64
  pub right : (w j : ℕ) → w < 64 → j ∈ get_or new w 0 → (y : ℕ) × (y ⊆ w) × (j ∈ get_or old y 0)
  pub full : (y w : ℕ) → w < 64 → y ⊆ w → get_or old y 0 ⊆ get_or new w 0
