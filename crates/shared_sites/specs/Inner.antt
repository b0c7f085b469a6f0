-- What the search for two quorums without a common site answers.
use Rattle.std.specs.Prelude.{ℕ, ◌^◌, Bool, cond, eqb}
use Rattle.verdicts.specs.Verdicts.{beside, first_apart}

-- the largest quorum in the complement of the first that has one there; none if there is no such quorum
unfoldable pub beside_first : (ℕ → ℕ → Bool) → ℕ → ℕ
unfolding first_apart beside
beside_first s n = cond (eqb (first_apart s n) (2 ^ n)) 0 (beside s n (first_apart s n))
