-- What a sweep through w leaves: it keeps the largest quorum inside w, and drops whom the round from w drops. It may drop more, as a later round would.
use Rattle.std.specs.Prelude.{ℕ, Bool}
use Rattle.masks.specs.Mask.{◌⊆◌}
use Rattle.sets.specs.Quorum.{round, largest}

pub record Swept (s : ℕ → ℕ → Bool) (n w left : ℕ) : Type 0 where
  pub keeps : largest s n w ⊆ left
  pub drops : left ⊆ round s n w
