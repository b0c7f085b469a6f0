-- What is carried from one question to the next.
use Rattle.std.specs.Prelude.{ℕ, ◌<◌, Bool, not, cond, List, ◌≡◌, length, get_or}
use Rattle.std.specs.Int.Bits.{bit_and}
use Rattle.masks.specs.Mask.{has, within, ◌⊆◌}
use Rattle.sets.specs.Promises.{Questions}

-- what is left of w, if w is inside the larger set: what it has in common with the bound
unfoldable pub bounded_by : ℕ → ℕ → ℕ → ℕ
bounded_by larger bound w = cond (within w larger) (bit_and w bound) w

-- every set inside the larger one has its largest quorum inside the bound
pub record Bounds (Q : Questions) (larger bound : ℕ) : Type 0 where
  pub each : (v w : ℕ) → w ⊆ larger → Q.in_quorum v w ≡ Q.in_quorum v (bit_and w bound)

-- of the set that was asked last, number 0: number 1 has the sites that belong to the largest quorum inside it. Number 3 bounds the sets inside number 2.
pub record Asked (Q : Questions) (n : ℕ) (asked : List ℕ) : Type 0 where
  pub four : length asked ≡ 4
  pub known : (v : ℕ) → v < n → has (get_or asked 1 0) v ≡ Q.in_quorum v (get_or asked 0 0)
  pub bounds : Bounds Q (get_or asked 2 0) (get_or asked 3 0)

-- what a run keeps of the sets asked in vain: number 1 bounds the sets inside number 0. Numbers 2 and 3 only say when to search next.
pub record Known (Q : Questions) (known : List ℕ) : Type 0 where
  pub four : length known ≡ 4
  pub bounds : Bounds Q (get_or known 0 0) (get_or known 1 0)

-- site v is not in what is left of w
unfoldable pub hopeless : List ℕ → ℕ → ℕ → Bool
unfolding bounded_by
hopeless known v w = not (has (bounded_by (get_or known 0 0) (get_or known 1 0) w) v)
