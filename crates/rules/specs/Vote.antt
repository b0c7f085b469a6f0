-- The vote of 01, as a run knows it.
use Rattle.std.specs.Prelude.{ℕ, ◌<◌}
use Rattle.masks.specs.Mask.{◌∈◌}
use Rattle.rules.specs.Rules.{answer, taken}
use Rattle.rules.specs.Sound.{Sound}
use Rattle.rules.specs.State.{width, Below}
use Rattle.sets.specs.Groups.{questions, Groups, sites_of}
use Rattle.sets.specs.Promises.{Questions}
use Rattle.votes.specs.Vote.{Vote}

-- of n sites, those of F faulty; "the list proposes both sides to no correct site"
abbrev pub vote : Questions → ℕ → ℕ → Vote
vote Q n F = record {
  width = width n;
  answer = answer n F;
  taken = taken Q n;
  Sound = Sound Q n F;
  Below = Below;
  OneSided = λ May. (v : ℕ) → v < n → (v ∈ F → ⊥) → May v 0 → May v 1 → ⊥;
}

-- of a table, the sites of F faulty
abbrev pub vote_of : Groups → ℕ → Vote
vote_of t F = vote (questions t) (sites_of t) F
