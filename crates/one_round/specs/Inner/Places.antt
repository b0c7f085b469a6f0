-- A place for each site whose row lists slices: one of them, before which each is known to fail. A set that only shrinks never makes a failed slice hold again.
use Rattle.std.specs.Prelude.{ℕ, ◌<◌, true, false, List, ◌≡◌, length, get_or}
use Rattle.masks.specs.Mask.{within, ◌∈◌}
use Rattle.sets.specs.Inner.Rows.{of_sets, rules_of}
use Rattle.table.specs.Table.{count_of, slice_of}

-- in the table t number k is a slice of site v, and none before it is inside w
pub record Place (t : List ℕ) (w v k : ℕ) : Type 0 where
  pub slice : k < count_of t v
  pub passed : (i : ℕ) → i < k → within (slice_of t v i) w ≡ false

-- each site of w that lists slices has its place
pub record Places (t : List ℕ) (n w : ℕ) (places : List ℕ) : Type 0 where
  pub many : length places ≡ 64
  pub at : (v : ℕ) → v < n → v ∈ w → of_sets t v ≡ false → Place t w v (get_or places v 0)

-- site v got its place if it lists slices and has one inside w, and no other place changed
pub record Placed (t : List ℕ) (w v : ℕ) (before after : List ℕ) : Type 0 where
  pub many : length after ≡ 64
  pub at : of_sets t v ≡ false → (rules_of t).inside v w ≡ true → Place t w v (get_or after v 0)
  pub others : (u : ℕ) → (u ≡ v → ⊥) → get_or after u 0 ≡ get_or before u 0

-- for each site of w a set that holds a slice of it
pub record SlicesHeld (t : List ℕ) (n w : ℕ) (held : List ℕ) : Type 0 where
  pub many : length held ≡ 64
  pub at : (v : ℕ) → v < n → v ∈ w → (rules_of t).inside v (get_or held v 0) ≡ true
