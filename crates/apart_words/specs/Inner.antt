-- What the search for two quorums without a common site keeps: families of sets as words. With a set b deleted each quorum is looked for together with b.
use Rattle.std.specs.Prelude.{ℕ, ◌+◌, ◌-◌, ◌*◌, ◌/◌, ◌<◌, Bool, true, ◌&&◌, ◌||◌, cond, List, ◌≡◌, length, get_or}
use Rattle.std.specs.Int.Bits.{bit_or}
use Rattle.masks.specs.Mask.{has, within, single, minus, ◌∈◌, ◌⊆◌}
use Rattle.sets.specs.Quorum.{quorum}
use Rattle.sets.specs.Slices.{Slices}
use Rattle.verdicts.specs.Verdicts.{apart}
use Rattle.set_words.specs.Inner.{in_family}

-- the sets of a word that stay: those of low, if w contains high
pub record Containing (high w low word : ℕ) : Type 0 where
  pub each : (j : ℕ) → has word j ≡ within high w && has low j

-- s contains b, and without b it is a quorum of the table with b deleted
unfoldable pub quorum_with : Slices → ℕ → ℕ → ℕ → Bool
unfolding quorum within
quorum_with r n b s = within b s && quorum (r.deleted b) n (minus s b)

-- s contains b, and without b it has a quorum beside it then
unfoldable pub apart_with : Slices → ℕ → ℕ → ℕ → Bool
unfolding apart within
apart_with r n b s = within b s && apart (r.deleted b) n (minus s b)

-- of 64 sets: with site x those without it, without site x both
pub record Turn (x word next : ℕ) : Type 0 where
  pub each : (j : ℕ) → j < 64 → has next j ≡ cond (has j x) (has word (minus j (single x))) (has word j || has word (bit_or j (single x)))

unfoldable pub turned_at : ℕ → List ℕ → ℕ → Bool
unfolding in_family
turned_at x words s = cond (has s x) (in_family words (minus s (single x))) (in_family words s || in_family words (bit_or s (single x)))

-- the same unless x is in b
unfoldable pub turned_unless : ℕ → ℕ → List ℕ → ℕ → Bool
unfolding in_family turned_at
turned_unless b x words s = cond (has b x) (in_family words s) (turned_at x words s)

-- q and s have no common site of those below x that are not in b, and the same other sites
pub record Faces (b x q s : ℕ) : Type 0 where
  pub apart : (y : ℕ) → y < x → (y ∈ b → ⊥) → y ∈ q → y ∈ s → ⊥
  pub to : (y : ℕ) → (y < x → y ∈ b) → y ∈ q → y ∈ s
  pub back : (y : ℕ) → (y < x → y ∈ b) → y ∈ s → y ∈ q

-- the new words say of a set whether the old have one that it faces
pub record Turned (b x : ℕ) (old new : List ℕ) : Type 0 where
  pub long : length new ≡ 64
  pub right : (s : ℕ) → s < 4096 → in_family new s ≡ true → (q : ℕ) × (q < 4096) × Faces b x q s × (in_family old q ≡ true)
  pub full : (q s : ℕ) → q < 4096 → s < 4096 → Faces b x q s → in_family old q ≡ true → in_family new s ≡ true

-- of a set that contains b: the words say, at its first six sites and the others of the last six, or those of b, whether a set has with it no common site but
-- those of b
pub record Beside (b : ℕ) (sets words : List ℕ) : Type 0 where
  pub long : length words ≡ 64
  pub right : (w j : ℕ) → w < 64 → j < 64 → b ⊆ w * 64 + j → j ∈ get_or words (bit_or (63 - w) (b / 64)) 0
      → (q : ℕ) × (q < 4096) × ((z : ℕ) → z ∈ q → (z ∈ b → ⊥) → z ∈ w * 64 + j → ⊥) × (in_family sets q ≡ true)
  pub full : (w j q : ℕ) → w < 64 → j < 64 → b ⊆ w * 64 + j → q < 4096 → b ⊆ q → ((z : ℕ) → z ∈ q → (z ∈ b → ⊥) → z ∈ w * 64 + j → ⊥) → in_family sets q ≡ true
      → j ∈ get_or words (bit_or (63 - w) (b / 64)) 0
