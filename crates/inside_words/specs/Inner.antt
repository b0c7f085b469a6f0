-- Which sets of at most 12 sites have a slice of a site inside, as words; and in which sets each member has one.
use Rattle.std.specs.Prelude.{ℕ, ◌*◌, ◌+◌, ◌/◌, ◌%◌, ◌≤◌, ◌<◌, Bool, true, ◌||◌, not, List, ◌≡◌, length, get_or}
use Rattle.ground.specs.Search.{every}
use Rattle.masks.specs.Mask.{has, ◌∈◌, ◌⊆◌}
use Rattle.sets.specs.Slices.{Slices, slices_of}
use Rattle.table.specs.Table.{count_of, slice_of}

-- no set yet
pub record Empty (words : List ℕ) : Type 0 where
  pub long : length words ≡ 64
  pub none : (w : ℕ) → get_or words w 0 ≡ 0

-- the first i slices of site v are marked, each with the sets that contain it and have the same sites of the last six; and in all these sets it has a slice
pub record Marked (t : List ℕ) (v i : ℕ) (words : List ℕ) : Type 0 where
  pub long : length words ≡ 64
  pub right : (w j : ℕ) → j < 64 → j ∈ get_or words w 0 → (slices_of t).inside v (w * 64 + j) ≡ true
  pub each : (k j : ℕ) → k < i → j < 64 → slice_of t v k % 64 ⊆ j → j ∈ get_or words (slice_of t v k / 64) 0

-- and the last of them is in word at, which is word; behind it there is nothing yet
pub record Marking (t : List ℕ) (v i at word : ℕ) (words : List ℕ) : Type 0 where
  pub marked : Marked t v i words
  pub here : get_or words at 0 ≡ word
  pub behind : (y : ℕ) → at < y → get_or words y 0 ≡ 0
  pub next : (k : ℕ) → i ≤ k → k < count_of t v → at ≤ slice_of t v k / 64

-- each member of u below k that is not in b has a slice inside u
unfoldable pub fits : Slices → ℕ → ℕ → ℕ → Bool
unfolding every
fits r b k u = every k (λ v. has b v || (not (has u v) || r.inside v u))
