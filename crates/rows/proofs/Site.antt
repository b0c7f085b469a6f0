-- Laws of the unused places of a site's 63 numbers.
use Prim.Native.Nat.{ℕ, ◌+◌, ◌-◌, ◌≤◌, ◌<◌}
use mathlib.Core.Bool.{Bool, false, ◌||◌, not}
use mathlib.Core.List.{List}
use mathlib.Core.Path.{◌≡◌, refl, sym, ap, subst, ◌∙◌}
use native.Mathlib.Omega.{arith}
use lib.Bits.{bit_or}
use lib.Dec.{eqb}
use borrow.Author.Tests.{eqb-true, eq-eqb, not-false}
use Rattle.ground.proofs.Logic.{or-none, fail-alike}
use Rattle.ground.proofs.Some.{some-suc, none_each, each_none}
use Rattle.ground.specs.Search.{some}
use Rattle.masks.proofs.Laws.Subsets.{⊆-le, or-⊆-l, or-⊆-r}
use Rattle.rows.specs.Site.{count, slice, row_unfilled}

some-bit : (a b : ℕ) → not (eqb (bit_or a b) 0) ≡ not (eqb a 0) || not (eqb b 0)
some-bit a b =
    fail-alike (not (eqb (bit_or a b) 0)) (not (eqb a 0) || not (eqb b 0))
    (λ h. let z = eqb-true (bit_or a b) 0 (not-false _ h) in
    let l = ⊆-le (or-⊆-l a b) in
    let r = ⊆-le (or-⊆-r a b) in
    let ea : a ≡ 0 = omega arith in
    let eb : b ≡ 0 = omega arith in
    rw (ea, eb) refl)
    (λ h. let p = or-none (not (eqb a 0)) (not (eqb b 0)) h in
    rw (eqb-true a 0 (not-false _ p.0), eqb-true b 0 (not-false _ p.1)) refl)

-- one of the unused places before j is not zero just if all of them together are not: of any row
pub unfilled-more : (slice : ℕ → ℕ) (count j any : ℕ) → not (eqb any 0) ≡ some j (λ i. not (eqb (slice (count + i)) 0))
    → not (eqb (bit_or any (slice (count + j))) 0) ≡ some (j + 1) (λ i. not (eqb (slice (count + i)) 0))
unfilled-more slice count j any e =
    let used : ℕ → Bool = λ i. not (eqb (slice (count + i)) 0) in
    some-bit any (slice (count + j)) ∙ ap (λ (x : Bool). x || used j) e ∙ sym (some-suc j used)

-- each of them is zero
module _ (slice : ℕ → ℕ) (count : ℕ) where
  pub unused-zero : some (62 - count) (λ j. not (eqb (slice (count + j)) 0)) ≡ false → (i : ℕ) → count ≤ i → i < 62 → slice i ≡ 0
  unused-zero h i l b =
      let z = none_each (62 - count) (λ j. not (eqb (slice (count + j)) 0)) (i - count) h (omega arith) in
      subst (λ (k : ℕ). slice k ≡ 0) (omega arith) (eqb-true (slice (count + (i - count))) 0 (not-false _ z))

  pub zero-unused : ((i : ℕ) → count ≤ i → i < 62 → slice i ≡ 0) → some (62 - count) (λ j. not (eqb (slice (count + j)) 0)) ≡ false
  zero-unused f =
      each_none (62 - count) (λ j. not (eqb (slice (count + j)) 0)) (λ j l. ap not (eq-eqb _ 0 (f (count + j) (omega arith) (omega arith))))

module _ (m : List ℕ) where
  pub zero-above : row_unfilled m ≡ false → (i : ℕ) → count m ≤ i → i < 62 → slice m i ≡ 0
  unfolding row_unfilled
  zero-above h = unused-zero (slice m) (count m) h

  pub clean-above : ((i : ℕ) → count m ≤ i → i < 62 → slice m i ≡ 0) → row_unfilled m ≡ false
  unfolding row_unfilled
  clean-above f = zero-unused (slice m) (count m) f
