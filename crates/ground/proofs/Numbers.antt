-- Two numbers are the same or not; the numbers below two.
use Prim.Native.Nat.{ℕ, zero, suc, ◌<◌}
use mathlib.Core.Logic.{◌⊎◌, inl, inr, ⊎_elim}
use mathlib.Core.Path.{◌≡◌}
use native.Mathlib.Omega.{arith}
use lib.Dec.{eqb}
use borrow.Author.Tests.{eqb-true, eqb-false}
use Rattle.ground.proofs.Logic.{cases}

pub same? : (i j : ℕ) → (i ≡ j) ⊎ (i ≡ j → ⊥)
same? i j = ⊎_elim (λ e. inl (eqb-true i j e)) (λ e. inr (eqb-false i j e)) (cases (eqb i j))

-- what holds of 0 and of 1 holds of each number below 2
pub two : (P : ℕ → Type 0) → P 0 → P 1 → (i : ℕ) → i < 2 → P i
two P a b zero h = a
two P a b (suc zero) h = b
two P a b (suc (suc i)) h = absurd (omega arith)
