-- The first member of a set that is not empty, as the zeros below it say which it is: that it is one, and the set without it.
use Prim.Native.Nat.{ℕ, zero, suc, ◌+◌, ◌-◌, ◌*◌, ◌/◌, ◌%◌, ◌^◌, ◌<◌, min}
use mathlib.Core.Path.{◌≡◌, refl, sym, ap, ◌∙◌, subst}
use native.Mathlib.Nat.{zero-lt-suc, div-lt_iff_lt-mul, pow-suc, pow-succ', div-div-eq-div-mul, div-one}
use native.Mathlib.Omega.{arith}
use lib.Bits.{bit_and, and_step, and_self}
use lib.Count.{count_trailing_zeros, under}
use borrow.Author.Tests.{eq-eqb}
use Rattle.masks.specs.Mask.{has, single, minus, ◌∈◌}
use Rattle.masks.proofs.Laws.Single.{single-⊆}
use Rattle.masks.proofs.Laws.Step.{minus-or, or-part}
use Rattle.masks.proofs.Laws.Subsets.{mem}

first-odd : (k m : ℕ) → (m ≡ 0 → ⊥) → m < 2 ^ k → m / 2 ^ count_trailing_zeros k m % 2 ≡ 1
unfolding count_trailing_zeros
first-odd zero m f h = absurd (f (omega arith))
first-odd (suc k) m f h =
    go (m % 2) refl (λ (e : m % 2 ≡ 0). first-odd k (m / 2) (λ z. f (omega arith)) ((div-lt_iff_lt-mul (zero-lt-suc 1)).1 (subst (λ (x : ℕ). m < x) (pow-suc 2 k) h)))
  where
    go : (r : ℕ) → m % 2 ≡ r → (m % 2 ≡ 0 → m / 2 / 2 ^ count_trailing_zeros k (m / 2) % 2 ≡ 1) → m / 2 ^ under r (count_trailing_zeros k (m / 2)) % 2 ≡ 1
    go zero e ih =
        let t = count_trailing_zeros k (m / 2) in
        ap (λ (x : ℕ). x % 2) (ap (λ (x : ℕ). m / x) (pow-succ' 2 t) ∙ sym (div-div-eq-div-mul m 2 (2 ^ t))) ∙ ih e
    go (suc r) e ih = ap (λ (x : ℕ). x % 2) (div-one m) ∙ (omega arith)

pub first_member : (k m : ℕ) → (m ≡ 0 → ⊥) → m < 2 ^ k → count_trailing_zeros k m ∈ m
unfolding has
first_member k m f h = mem (eq-eqb (m / 2 ^ count_trailing_zeros k m % 2) 1 (first-odd k m f h))

-- one less is the set without it, but for what stands below it
first_off : (k m : ℕ) → (m ≡ 0 → ⊥) → m < 2 ^ k → bit_and m (m - 1) + 2 ^ count_trailing_zeros k m ≡ m
unfolding count_trailing_zeros
first_off zero m f h = absurd (f (omega arith))
first_off (suc k) m f h =
    go (m % 2) refl (λ (e : m % 2 ≡ 0). first_off k (m / 2) (λ z. f (omega arith)) ((div-lt_iff_lt-mul (zero-lt-suc 1)).1 (subst (λ (x : ℕ). m < x) (pow-suc 2 k) h)))
  where
    go : (r : ℕ) → m % 2 ≡ r → (m % 2 ≡ 0 → bit_and (m / 2) (m / 2 - 1) + 2 ^ count_trailing_zeros k (m / 2) ≡ m / 2) → bit_and m (m - 1) + 2 ^ under r (count_trailing_zeros k (m / 2)) ≡ m
    go zero e ih =
        let t = count_trailing_zeros k (m / 2) in
        let half : (m - 1) / 2 ≡ m / 2 - 1 = omega arith in
        let off = and_step m (m - 1) ∙ ap (λ (x : ℕ). bit_and (m / 2) x * 2 + min (m % 2) ((m - 1) % 2)) half in
        omega (arith, ih e, pow-suc 2 t)
    go (suc r) e ih =
        let half : (m - 1) / 2 ≡ m / 2 = omega arith in
        let off = and_step m (m - 1) ∙ ap (λ (x : ℕ). bit_and (m / 2) x * 2 + min (m % 2) ((m - 1) % 2)) half in
        omega (arith, and_self (m / 2))

pub first_out : (k m : ℕ) → (m ≡ 0 → ⊥) → m < 2 ^ k → bit_and m (m - 1) ≡ minus m (single (count_trailing_zeros k m))
first_out k m f h =
    let t = count_trailing_zeros k m in
    let off = first_off k m f h in
    let out = minus-or m (single t) ∙ or-part (single-⊆ (first_member k m f h)) in
    omega arith
