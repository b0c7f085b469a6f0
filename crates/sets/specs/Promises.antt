-- What the voting knows of the sets, and nothing else: three questions, with the receiver first, and their laws. `S v` is the FBQS as site v sees it.
use Rattle.std.specs.Prelude.{ℕ, Bool, true, false, ◌↔◌, ◌≡◌}
use Rattle.std.specs.Int.Bits.{bit_and}
use Rattle.masks.specs.Mask.{has, others, ◌∈◌, ◌⊆◌}
use Rattle.sets.specs.Paper.{Fbqs, Quorum}
use Rattle.sets.specs.Quorum.{largest}
use Rattle.sets.specs.Slices.{Slices}

pub record Questions : Type 0 where
  -- site v belongs to the largest quorum inside w
  pub in_quorum : ℕ → ℕ → Bool
  -- w blocks site v, which does not count itself
  pub blocked : ℕ → ℕ → Bool
  -- site u has, as site v sees it, some slice inside w
  pub has_slice : ℕ → ℕ → ℕ → Bool

-- the questions as n sites with these slices answer them: every site sees the same
unfoldable pub questions_of : Slices → ℕ → Questions
unfolding largest
questions_of r n = record { in_quorum = λ v w. has (largest r.inside n w) v; blocked = r.blocked; has_slice = λ v u w. r.inside u w }

pub record Promises (S : ℕ → Fbqs) (Q : Questions) : Type 0 where
  -- both grow with the set
  pub quorum-grows : (v a b : ℕ) → a ⊆ b → Q.in_quorum v a ≡ true → Q.in_quorum v b ≡ true
  pub blocked-grows : (v a b : ℕ) → a ⊆ b → Q.blocked v a ≡ true → Q.blocked v b ≡ true
  -- who belongs to the largest quorum inside w is in w, and is in a quorum inside w; and the other way
  pub quorum-member : (v w : ℕ) → Q.in_quorum v w ≡ true → v ∈ w
  pub quorum-inside : (v w : ℕ) → Q.in_quorum v w ≡ true → (u : ℕ) × Quorum (S v) u × (u ⊆ w) × (v ∈ u)
  pub of-quorum : (v w u : ℕ) → Quorum (S v) u → u ⊆ w → v ∈ u → Q.in_quorum v w ≡ true
  -- the empty set blocks nobody
  pub nobody-blocked : (v : ℕ) → v ∈ (S v).sites → Q.blocked v 0 ≡ false
  -- the others of a blocking set meet every set that holds a slice of v; who is not blocked by w has a slice that they miss
  pub blocked-meets : (v w u q : ℕ) → Q.blocked v w ≡ true → (S v).Slice v q → q ⊆ u → bit_and u (others w v) ≡ 0 → ⊥
  pub unblocked-rest : (v w : ℕ) → Q.blocked v w ≡ false → (q : ℕ) × (S v).Slice v q × (bit_and q (others w v) ≡ 0)
  -- who has a slice inside w, as site v sees it, and the other way
  pub slice-decides : (v u w : ℕ) → (Q.has_slice v u w ≡ true) ↔ ((q : ℕ) × (S v).Slice u q × (q ⊆ w))
