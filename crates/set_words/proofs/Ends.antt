-- The first member of a set, and the last: nobody is before the one or behind the other.
use Prim.Native.Nat.{ℕ, zero, suc, ◌+◌, ◌-◌, ◌*◌, ◌/◌, ◌%◌, ◌^◌, ◌≤◌, ◌<◌}
use mathlib.Core.Bool.{true, false}
use mathlib.Core.Path.{◌≡◌, refl, ap, ◌∙◌, subst}
use native.Mathlib.Nat.{not-suc-le-zero, le_of_suc-le-suc, div-one, div-eq_of_lt-le}
use native.Mathlib.Omega.{arith}
use lib.Count.{count_trailing_zeros, count_leading_zeros, under, leading_top}
use lib.Dec.{eqb}
use Rattle.masks.proofs.Laws.First.{first_member}
use Rattle.masks.proofs.Laws.Members.{has-suc, has_above}
use Rattle.masks.proofs.Laws.Subsets.{mem, ∈-below}
use Rattle.masks.specs.Mask.{has}
use Rattle.set_words.specs.Inner.{FirstSet, LastSet}

lowest : (m : ℕ) → m % 2 ≡ 0 → has m 0 ≡ false
unfolding has
lowest m e = ap (λ (x : ℕ). eqb x 1) (ap (λ (x : ℕ). x % 2) (div-one m) ∙ e)

pub trailing-before : (k m v : ℕ) → v < count_trailing_zeros k m → has m v ≡ false
unfolding count_trailing_zeros
trailing-before zero m v l = absurd (not-suc-le-zero l)
trailing-before (suc k) m v l = go (m % 2) refl v l (trailing-before k (m / 2))
  where
    go : (r : ℕ) → m % 2 ≡ r → (v : ℕ) → v < under r (count_trailing_zeros k (m / 2)) → ((v : ℕ) → v < count_trailing_zeros k (m / 2) → has (m / 2) v ≡ false) → has m v ≡ false
    go zero e zero l ih = lowest m e
    go zero e (suc v) l ih = has-suc m v ∙ ih v (le_of_suc-le-suc l)
    go (suc r) e v l ih = absurd (not-suc-le-zero l)

pub first-is : (m : ℕ) → (m ≡ 0 → ⊥) → m < 2 ^ 64 → FirstSet m (count_trailing_zeros 64 m)
first-is m ne l = let i = first_member 64 m ne l in record { below = ∈-below l i; member = i; before = λ y k. trailing-before 64 m y k }

highest : (m j : ℕ) → 2 ^ j ≤ m → m < 2 ^ suc j → has m j ≡ true
unfolding has
highest m j a b = ap (λ (x : ℕ). eqb (x % 2) 1) (div-eq_of_lt-le (2 ^ j) (one (2 ^ j) a) (two (2 ^ j) (twice j) b))
  where
    twice : (j : ℕ) → 2 ^ suc j ≡ 2 ^ j + 2 ^ j
    twice j = omega arith

    one : (k : ℕ) → k ≤ m → 1 * k ≤ m
    one k h = omega arith

    two : (k : ℕ) → 2 ^ suc j ≡ k + k → m < 2 ^ suc j → m < (1 + 1) * k
    two k e h = omega arith

pub last-is : (m : ℕ) → (m ≡ 0 → ⊥) → m < 2 ^ 64 → LastSet m (63 - count_leading_zeros 64 m)
last-is m ne l =
    let r = leading_top 64 m (pos m ne) l in
    subst (LastSet m) (top r.0 r.1)
    (record {
      below = few r.0 r.1;
      member = mem (highest m r.0 r.2 r.3);
      behind = λ y k. has_above {n = suc r.0} y r.3 k;
    })
  where
    pos : (m : ℕ) → (m ≡ 0 → ⊥) → 0 < m
    pos m ne = omega arith

    top : (j : ℕ) → count_leading_zeros 64 m + suc j ≡ 64 → j ≡ 63 - count_leading_zeros 64 m
    top j e = omega arith

    few : (j : ℕ) → count_leading_zeros 64 m + suc j ≡ 64 → j < 64
    few j e = omega arith

pub leading-few : (m : ℕ) → (m ≡ 0 → ⊥) → m < 2 ^ 64 → count_leading_zeros 64 m < 64
leading-few m ne l = let r = leading_top 64 m (pos m ne) l in less r.0 r.1
  where
    pos : (m : ℕ) → (m ≡ 0 → ⊥) → 0 < m
    pos m ne = omega arith

    less : (j : ℕ) → count_leading_zeros 64 m + suc j ≡ 64 → count_leading_zeros 64 m < 64
    less j e = omega arith
