-- How many digits a number and a mask have.
use Prim.Native.Nat.{ℕ, zero, suc, ◌-◌, ◌/◌, ◌^◌, ◌≤◌, ◌<◌}
use mathlib.Core.Bool.{false}
use mathlib.Core.List.{List}
use mathlib.Core.Logic.{⊎_elim}
use mathlib.Core.Path.{◌≡◌, refl, sym, ap, ◌∙◌, subst}
use native.Mathlib.Nat.{eq-or-lt_of_le, le_trans, pow-le-pow_right, le_of_suc-le-suc, lt_of_lt_of_le, lt_irrefl, lt_of_not-le}
use native.Mathlib.Omega.{arith}
use lib.Dec.{ltb}
use lib.ListN.{length, length-append}
use borrow.Author.Tests.{lt-ltb, le-ltb}
use Rattle.ground.specs.Search.{least}
use Rattle.ground.proofs.Least.{least-le, least-fails, least-found}
use Rattle.io.specs.Digits.{last_digits, IsDigitCount}
use Rattle.text.specs.Text.{digit_count, decimal, mask}

pub length_digits : (b k n : ℕ) → length (last_digits b k n) ≡ k
length_digits b zero n = refl
length_digits b (suc k) n = length-append (last_digits b k (n / b)) _ ∙ rw (length_digits b k (n / b)) (omega arith)

-- the fewest digits are those of `digit_count`
fewest : (x j : ℕ) → j ≤ 19 → x < 10 ^ suc j → (0 < j → 10 ^ j ≤ x) → suc j ≡ digit_count x
unfolding digit_count
fewest x j le lt from =
    let before : (i : ℕ) → i < j → ltb x (10 ^ suc i) ≡ false =
    λ i l. le-ltb x (10 ^ suc i) (le_trans (pow-le-pow_right {n = 10} (omega arith) l) (from (omega arith))) in
    ap suc
    (sym
    (⊎_elim (λ e. subst (λ (m : ℕ). least m (λ k. ltb x (10 ^ suc k)) ≡ j) e (least-fails j (λ k. ltb x (10 ^ suc k)) before))
    (λ l. least-found 19 j (λ k. ltb x (10 ^ suc k)) l before (lt-ltb x (10 ^ suc j) lt)) (eq-or-lt_of_le le)))

one_less : (j : ℕ) → suc j - 1 ≡ j
one_less j = omega arith

-- a 64-bit number has at most w digits in base b, where b ^ w is 2 ^ 64 or more
few : (b w x k : ℕ) → 0 < b → 2 ^ 64 ≤ b ^ w → x < 2 ^ 64 → (w < k → b ^ (k - 1) ≤ x) → k ≤ w
few b w x k pos big fits from =
    le_of_suc-le-suc
    (lt_of_not-le
    (λ l. lt_irrefl x (lt_of_lt_of_le fits (le_trans big (le_trans (pow-le-pow_right {n = b} pos (drop-one w k l)) (from l))))))
  where
    drop-one : (w k : ℕ) → w < k → w ≤ k - 1
    drop-one w k l = omega arith

pub few-decimal : (x k : ℕ) → x < 2 ^ 64 → IsDigitCount 10 1 x k → k ≤ 20
few-decimal x k h f = few 10 20 x k (omega arith) (omega arith) h (λ l. f.2 (omega arith))

pub few-hex : (m k : ℕ) → m < 2 ^ 64 → IsDigitCount 16 16 m k → k ≤ 16
few-hex m k h f = few 16 16 m k (omega arith) (omega arith) h f.2

width_of : (x k : ℕ) → k ≤ 20 → IsDigitCount 10 1 x k → k ≡ digit_count x
width_of x zero le f = absurd (omega arith)
width_of x (suc j) le f = fewest x j (le_of_suc-le-suc le) f.1 (λ l. rw (one_less j) at (f.2 (omega arith)))

width-le : (x : ℕ) → digit_count x ≤ 20
unfolding digit_count
width-le x = omega (arith, least-le 19 (λ k. ltb x (10 ^ suc k)))

pub length-decimal : (x : ℕ) → length (decimal x) ≤ 20
unfolding decimal
length-decimal x = rw (length_digits 10 (digit_count x) x) (width-le x)

pub length-mask : (m : ℕ) → length (mask m) ≡ 16
unfolding mask
length-mask m = length_digits 16 16 m

-- what the kit spells
pub decimal-spelt : (x k : ℕ) (l : List ℕ) → x < 2 ^ 64 → IsDigitCount 10 1 x k → l ≡ last_digits 10 k x → l ≡ decimal x
unfolding decimal
decimal-spelt x k l h f e = e ∙ ap (λ (j : ℕ). last_digits 10 j x) (width_of x k (few-decimal x k h f) f)

pub mask-spelt : (m k : ℕ) (l : List ℕ) → m < 2 ^ 64 → IsDigitCount 16 16 m k → l ≡ last_digits 16 k m → l ≡ mask m
unfolding mask
mask-spelt m k l h f e = let w : k ≡ 16 = omega (arith, few-hex m k h f) in e ∙ ap (λ (j : ℕ). last_digits 16 j m) w
