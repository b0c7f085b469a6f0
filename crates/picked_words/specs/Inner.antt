-- Of a family of sets as words: those that have no site of a set, and the last below a set.
use Rattle.std.specs.Prelude.{ℕ, ◌<◌, true, false, ◌&&◌, List, ◌≡◌, eqb}
use Rattle.std.specs.Int.Bits.{bit_and}
use Rattle.masks.specs.Mask.{has, ◌∈◌}
use Rattle.set_words.specs.Inner.{in_family}

-- of the sets of the first six sites those that have no site of m below x
pub record Missing (m x word : ℕ) : Type 0 where
  pub right : (j y : ℕ) → j < 64 → j ∈ word → y < x → y ∈ m → y ∈ j → ⊥
  pub full : (j : ℕ) → j < 64 → ((y : ℕ) → y < x → y ∈ m → y ∈ j → ⊥) → j ∈ word

-- the sets of a word that stay: those of low, if w has no member of high
pub record Chosen (high w low word : ℕ) : Type 0 where
  pub each : (j : ℕ) → has word j ≡ eqb (bit_and high w) 0 && has low j

-- the last of the sets below end, or 0 if there is none but perhaps the empty set
pub record LastBelow (sets : List ℕ) (end r : ℕ) : Type 0 where
  pub below : (r ≡ 0 → ⊥) → r < end
  pub member : (r ≡ 0 → ⊥) → in_family sets r ≡ true
  pub none : (u : ℕ) → r < u → u < end → in_family sets u ≡ false
