-- The computed risk is that of the paper's intact and befouled sites: what is proved of a checked table, for every n.
use Rattle.std.specs.Prelude.{ℕ, ◌≤◌, ◌↔◌, ◌≡◌}
use Rattle.masks.specs.Mask.{single, size, ◌∈◌, ◌⊆◌}
use Rattle.sets.specs.Paper.{Fbqs, Intact, Befouled}
use Rattle.sets.specs.Slices.{Slices}
use Rattle.risk.specs.Risk.{taken_along, fewest, first_ruin}
use Rattle.sets.specs.Groups.{Groups, fbqs_in, slices_in, sites_of, Checked}

-- of a site v: so many others are befouled if it alone is faulty
pub record Along (S : Fbqs) (v k : ℕ) : Type 0 where
  pub set : ℕ
  pub counts : size set ≡ k
  pub members : (u : ℕ) → (u ∈ set) ↔ (Befouled S (single v) u × (u ≡ v → ⊥))

-- with the sites of F faulty nobody is intact
abbrev pub Ruinous : Fbqs → ℕ → Type 0
Ruinous S F = (F ⊆ S.sites) × ((v : ℕ) → Intact S F v → ⊥)

-- the fewest faulty sites that leave nobody intact, and of all such sets the lowest as a number
pub record Fewest (S : Fbqs) (k F : ℕ) : Type 0 where
  pub ruinous : Ruinous S F
  pub counts : size F ≡ k
  pub least : (G : ℕ) → Ruinous S G → k ≤ size G
  pub lowest : (G : ℕ) → Ruinous S G → size G ≡ k → F ≤ G

pub record RiskDecides (S : Fbqs) (r : Slices) (n : ℕ) : Type 0 where
  pub along : (v : ℕ) → v ∈ S.sites → Along S v (taken_along r n v)
  pub fewest-first : Fewest S (fewest r n) (first_ruin r n)

-- of a checked table
abbrev pub TableRisk : Type 0
TableRisk = (t : Groups) → Checked t → RiskDecides (fbqs_in t) (slices_in t) (sites_of t)
