-- Pairs of quorums without a common site that were found with a set deleted, as they are kept.
use Rattle.std.specs.Prelude.{ℕ, ◌+◌, ◌*◌, ◌<◌, Bool, true, List, ◌≡◌, length, get_or}
use Rattle.std.specs.Int.Bits.{bit_and}
use Rattle.masks.specs.Mask.{◌⊆◌}
use Rattle.sets.specs.Quorum.{quorum}
use Rattle.sets.specs.Slices.{Slices}

-- with the set deleted, p and q are quorums without a common site
pub record Pair (r : Slices) (n deleted p q : ℕ) : Type 0 where
  pub first : quorum (r.deleted deleted) n p ≡ true
  pub second : quorum (r.deleted deleted) n q ≡ true
  pub apart : bit_and p q ≡ 0

-- 16 of them, or none where the second is empty
pub record Pairs (r : Slices) (n : ℕ) (pairs : List ℕ) : Type 0 where
  pub long : length pairs ≡ 49
  pub each : (k : ℕ) → k < 16 → (get_or pairs (3 * k + 2) 0 ≡ 0 → ⊥) →
      Pair r n (get_or pairs (3 * k) 0) (get_or pairs (3 * k + 1) 0) (get_or pairs (3 * k + 2) 0)

-- the deleted set is inside gone, and something of both is in rest
pub record Left (rest gone deleted p q : ℕ) (answer : Bool) : Type 0 where
  pub inside : answer ≡ true → deleted ⊆ gone
  pub first : answer ≡ true → bit_and p rest ≡ 0 → ⊥
  pub second : answer ≡ true → bit_and q rest ≡ 0 → ⊥
