-- Of each of 12 sites the sets that do not contain it or have a slice of it inside, as words: word w of site v is at 64 v + w.
use Rattle.std.specs.Prelude.{ℕ, ◌*◌, ◌+◌, ◌/◌, ◌%◌, ◌<◌, Bool, ◌||◌, not, List, ◌≡◌, length, get_or}
use Rattle.masks.specs.Mask.{has, ◌∈◌}
use Rattle.sets.specs.Slices.{Slices}

-- site v is no member of s, or has a slice inside s
abbrev pub content : Slices → ℕ → ℕ → Bool
content r v s = not (has s v) || r.inside v s

-- the first k words of site v say so
pub record Kept (r : Slices) (v k : ℕ) (kept : List ℕ) : Type 0 where
  pub each : (w j : ℕ) → w < k → j < 64 → has (get_or kept (64 * v + w) 0) j ≡ content r v (w * 64 + j)

-- those of all sites below k but for those of b
pub record Contents (r : Slices) (b k : ℕ) (kept : List ℕ) : Type 0 where
  pub long : length kept ≡ 768
  pub each : (v : ℕ) → v < k → (v ∈ b → ⊥) → Kept r v 64 kept

-- what is kept of site v for the set s
unfoldable pub content_at : List ℕ → ℕ → ℕ → Bool
content_at kept v s = has (get_or kept (64 * v + s / 64) 0) (s % 64)
