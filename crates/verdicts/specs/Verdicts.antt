-- Shared sites, dispensable sets and intact sites, as they are computed. s is the rule of a table (`inside`, or `deleted b`), n the number of its sites.
use Rattle.std.specs.Prelude.{ℕ, ◌^◌, Bool, ◌&&◌, ◌||◌}
use Rattle.std.proofs.Math.Bool.{not}
use Rattle.std.proofs.Math.Dec.{eqb}
use Rattle.ground.specs.Search.{some, least}
use Rattle.masks.specs.Mask.{has, within, minus, all_below, gather}
use Rattle.sets.specs.Quorum.{quorum, largest}
use Rattle.sets.specs.Slices.{Slices}

module _ (s : ℕ → ℕ → Bool) (n : ℕ) where
  -- the largest quorum in the complement of p
  unfoldable pub beside : ℕ → ℕ
  unfolding largest
  beside p = largest s n (minus (all_below n) p)

  -- p is a quorum that has a quorum in its complement
  unfoldable pub apart : ℕ → Bool
  unfolding quorum beside
  apart p = quorum s n p && not (eqb (beside p) 0)

  -- "the quorum P with the smallest mask that has a quorum in its complement"; 2 ^ n if there is none
  unfoldable pub first_apart : ℕ
  unfolding least apart
  first_apart = least (2 ^ n) apart

  -- The search's answer: no quorum has a quorum in its complement. That this says "every two quorums have a common site" is the law `meets-decides`
  -- (stated in specs/Decides.antt, proved in proofs/Decides.antt).
  unfoldable pub meets : Bool
  unfolding first_apart
  meets = eqb first_apart (2 ^ n)

module _ (r : Slices) (n : ℕ) where
  -- "B is dispensable if the deleted table meets and either the sites outside B form a quorum of the original table or B is all sites."
  unfoldable pub dispensable : ℕ → Bool
  unfolding meets quorum
  dispensable b = meets (r.deleted b) n && (quorum r.inside n (minus (all_below n) b) || eqb b (all_below n))

  -- "Given the faulty set F, site v is intact if some dispensable B contains F and not v"
  unfoldable pub is_intact : ℕ → ℕ → Bool
  unfolding some dispensable
  is_intact f v = some (2 ^ n) (λ b. dispensable b && (within f b && not (has b v)))

  -- the intact sites
  unfoldable pub intact : ℕ → ℕ
  unfolding is_intact
  intact f = gather n (is_intact f)
