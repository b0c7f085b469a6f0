-- What the loop that gathers the calls that wait carries.
use Rattle.std.specs.Prelude.{ℕ, ◌≤◌, ◌<◌, List, ◌≡◌, get_or}

-- of w the numbers from a on and before b are the places from p on and before q where the answer byte is 15, in order
pub record Listed (out : List ℕ) (p q : ℕ) (w : List ℕ) (a b : ℕ) : Type 0 where
  pub from : (k : ℕ) → a ≤ k → k < b → p ≤ get_or w k 0
  pub below : (k : ℕ) → a ≤ k → k < b → get_or w k 0 < q
  pub waits : (k : ℕ) → a ≤ k → k < b → get_or out (get_or w k 0) 0 ≡ 15
  pub rises : (j k : ℕ) → a ≤ j → j < k → k < b → get_or w j 0 < get_or w k 0
  pub all : (i : ℕ) → p ≤ i → i < q → get_or out i 0 ≡ 15 → (k : ℕ) × (a ≤ k) × (k < b) × (get_or w k 0 ≡ i)
