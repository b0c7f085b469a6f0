-- The sets of the first six sites, one bit a set: bit u of a word says something of the set u.
use Rattle.std.specs.Prelude.{ℕ, ◌<◌, Bool, true, ◌&&◌, ◌||◌, not, List, ◌≡◌}
use Rattle.std.specs.Int.Bits.{bit_or}
use Rattle.ground.specs.Search.{every}
use Rattle.masks.specs.Mask.{has, within, all_below, ◌∈◌}
use Rattle.sets.specs.Slices.{Slices, slices_of}
use Rattle.table.specs.Table.{count_of, slice_of}

-- u is q and some sites below x more
unfoldable pub reaches : ℕ → ℕ → ℕ → Bool
reaches x q u = within q u && within u (bit_or q (all_below x))

-- the first i slices of site v are among these sets, and in each it has a slice
pub record Counted (t : List ℕ) (v i word : ℕ) : Type 0 where
  pub right : (u : ℕ) → u < 64 → u ∈ word → (slices_of t).inside v u ≡ true
  pub each : (k : ℕ) → k < i → slice_of t v k ∈ word

-- in these sets site v has a slice, and it has none in the others that a slice of it reaches by sites below x
pub record Sets (t : List ℕ) (v x word : ℕ) : Type 0 where
  pub right : (u : ℕ) → u < 64 → u ∈ word → (slices_of t).inside v u ≡ true
  pub full : (u i : ℕ) → u < 64 → i < count_of t v → reaches x (slice_of t v i) u ≡ true → u ∈ word

-- these are the sets that have a slice of site v inside
pub record Inside (r : Slices) (v word : ℕ) : Type 0 where
  pub each : (u : ℕ) → u < 64 → has word u ≡ r.inside v u

-- in these sets each member below v has a slice
pub record Held (r : Slices) (v word : ℕ) : Type 0 where
  pub each : (u : ℕ) → u < 64 → has word u ≡ every v (λ y. not (has u y) || r.inside y u)
