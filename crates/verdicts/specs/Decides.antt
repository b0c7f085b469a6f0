-- The computed verdicts are the paper's: what is proved of a checked table, for every n.
use Rattle.std.specs.Prelude.{ℕ, ◌≤◌, ◌<◌, true, false, ◌↔◌, ◌≡◌}
use Rattle.std.specs.Int.Bits.{bit_and}
use Rattle.masks.specs.Mask.{minus, all_below, ◌∈◌, ◌⊆◌}
use Rattle.sets.specs.Groups.{Groups, fbqs_in, slices_in, sites_of, Checked}
use Rattle.sets.specs.Paper.{Fbqs, Quorum, Intersection, Dispensable, Intact, Befouled}
use Rattle.sets.specs.Slices.{Slices}
use Rattle.verdicts.specs.Verdicts.{beside, first_apart, meets, dispensable, is_intact, intact}

-- of two quorums with no common site: p is the one of the smallest mask that has a quorum in its complement, q the largest quorum there
pub record Apart (S : Fbqs) (p q : ℕ) : Type 0 where
  pub first : Quorum S p
  pub second : Quorum S q
  pub no-common : bit_and p q ≡ 0
  pub smallest : (a b : ℕ) → Quorum S a → Quorum S b → bit_and a b ≡ 0 → p ≤ a
  pub largest-beside : (b : ℕ) → Quorum S b → bit_and p b ≡ 0 → b ⊆ q

-- shared sites, dispensable sets and intact sites: every verdict decides the paper's statement, both ways
pub record VerdictsDecide (S : Fbqs) (r : Slices) (n : ℕ) : Type 0 where
  pub meets-decides : (meets r.inside n ≡ true) ↔ Intersection S
  pub apart-decides : meets r.inside n ≡ false → Apart S (first_apart r.inside n) (beside r.inside n (first_apart r.inside n))
  pub dispensable-decides : (b : ℕ) → b ⊆ all_below n → (dispensable r n b ≡ true) ↔ Dispensable S b
  pub intact-decides : (f v : ℕ) → v < n → (is_intact r n f v ≡ true) ↔ Intact S f v
  pub intact-set : (f v : ℕ) → (v ∈ intact r n f) ↔ Intact S f v
  pub befouled-set : (f v : ℕ) → (v ∈ minus (all_below n) (intact r n f)) ↔ Befouled S f v

-- of a checked table
abbrev pub TableVerdicts : Type 0
TableVerdicts = (t : Groups) → Checked t → VerdictsDecide (fbqs_in t) (slices_in t) (sites_of t)
