-- What the search for the fewest faulty sites that leave nobody intact carries, and what it ends with.
use Rattle.std.specs.Prelude.{ℕ, ◌^◌, ◌≤◌, ◌<◌, true, ◌≡◌}
use Rattle.masks.specs.Mask.{size}
use Rattle.sets.specs.Slices.{Slices}
use Rattle.risk.specs.Risk.{ruinous}

module _ (r : Slices) (n : ℕ) where
  -- F is a set of k sites that leaves nobody intact; no such set has fewer members, and none of as many is below F
  pub record First (k F : ℕ) : Type 0 where
    pub below : F < 2 ^ n
    pub ruins : ruinous r n F ≡ true
    pub counts : size F ≡ k
    pub least : (G : ℕ) → G < 2 ^ n → ruinous r n G ≡ true → k ≤ size G
    pub lowest : (G : ℕ) → G < 2 ^ n → ruinous r n G ≡ true → size G ≡ k → F ≤ G

  -- what the search carries at the set F: the best so far is such a set, none below F has fewer members, and none of as many is below the best
  pub record Best (F best : ℕ) : Type 0 where
    pub below : best < 2 ^ n
    pub ruins : ruinous r n best ≡ true
    pub least : (G : ℕ) → G < F → ruinous r n G ≡ true → size best ≤ size G
    pub lowest : (G : ℕ) → G < best → ruinous r n G ≡ true → size G ≡ size best → ⊥
