-- Who is in a set, bit by bit; and that the same members make the same set.
use Prim.Native.Nat.{ℕ, zero, suc, ◌*◌, ◌/◌, ◌%◌, ◌^◌, ◌≤◌, ◌<◌, min, max}
use mathlib.Core.Bool.{Bool, false, ◌&&◌, ◌||◌, not, true≢false}
use mathlib.Core.Path.{◌≡◌, refl, sym, ap, ◌∙◌}
use native.Mathlib.Nat.{lt_of_lt_of_le, zero-lt-suc, not-suc-le-zero, le_of_suc-le-suc, mod-lt, div-eq_of_lt, zero-div, pow-suc, one-mul}
use native.Mathlib.Numerals.{one-add}
use native.Mathlib.Omega.{arith}
use lib.Arith.{digits_mod, lt-one}
use lib.Bits.{bit_and, bit_or, bit_xor, differ, and_shr, or_shr, xor_shr, and_step, or_step, xor_step}
use lib.Dec.{lit<, eqb, eqb-suc-suc, eqb-suc-zero, eqb-zero-suc}
use lib.Pow.{shl_exact, pow_mono, shr-shr}
use Rattle.masks.specs.Mask.{has, minus}

pub two_pos : zero < 2
two_pos = zero-lt-suc 1

-- digit by digit

odd : ℕ → Bool
odd m = eqb (m % 2) 1

min-1 : (x y : ℕ) → x < 2 → y < 2 → eqb (min x y) 1 ≡ eqb x 1 && eqb y 1
min-1 zero zero h k = refl
min-1 zero (suc zero) h k = refl
min-1 zero (suc (suc y)) h k = absurd (not-suc-le-zero (le_of_suc-le-suc (le_of_suc-le-suc k)))
min-1 (suc zero) zero h k = refl
min-1 (suc zero) (suc zero) h k = refl
min-1 (suc zero) (suc (suc y)) h k = absurd (not-suc-le-zero (le_of_suc-le-suc (le_of_suc-le-suc k)))
min-1 (suc (suc x)) y h k = absurd (not-suc-le-zero (le_of_suc-le-suc (le_of_suc-le-suc h)))

max-1 : (x y : ℕ) → x < 2 → y < 2 → eqb (max x y) 1 ≡ eqb x 1 || eqb y 1
max-1 zero zero h k = refl
max-1 zero (suc zero) h k = refl
max-1 zero (suc (suc y)) h k = absurd (not-suc-le-zero (le_of_suc-le-suc (le_of_suc-le-suc k)))
max-1 (suc zero) zero h k = refl
max-1 (suc zero) (suc zero) h k = refl
max-1 (suc zero) (suc (suc y)) h k = absurd (not-suc-le-zero (le_of_suc-le-suc (le_of_suc-le-suc k)))
max-1 (suc (suc x)) y h k = absurd (not-suc-le-zero (le_of_suc-le-suc (le_of_suc-le-suc h)))

differ-1 : (x y : ℕ) → x < 2 → y < 2 → eqb (differ x (min x y)) 1 ≡ eqb x 1 && not (eqb y 1)
differ-1 zero zero h k = refl
differ-1 zero (suc zero) h k = refl
differ-1 zero (suc (suc y)) h k = absurd (not-suc-le-zero (le_of_suc-le-suc (le_of_suc-le-suc k)))
differ-1 (suc zero) zero h k = refl
differ-1 (suc zero) (suc zero) h k = refl
differ-1 (suc zero) (suc (suc y)) h k = absurd (not-suc-le-zero (le_of_suc-le-suc (le_of_suc-le-suc k)))
differ-1 (suc (suc x)) y h k = absurd (not-suc-le-zero (le_of_suc-le-suc (le_of_suc-le-suc h)))

bit-eq : (x y : ℕ) → x < 2 → y < 2 → eqb x 1 ≡ eqb y 1 → x ≡ y
bit-eq zero zero h k e = refl
bit-eq zero (suc zero) h k e = absurd (true≢false (sym e))
bit-eq zero (suc (suc y)) h k e = absurd (not-suc-le-zero (le_of_suc-le-suc (le_of_suc-le-suc k)))
bit-eq (suc zero) zero h k e = absurd (true≢false e)
bit-eq (suc zero) (suc zero) h k e = refl
bit-eq (suc zero) (suc (suc y)) h k e = absurd (not-suc-le-zero (le_of_suc-le-suc (le_of_suc-le-suc k)))
bit-eq (suc (suc x)) y h k e = absurd (not-suc-le-zero (le_of_suc-le-suc (le_of_suc-le-suc h)))

min-lt : (x y : ℕ) → x < 2 → min x y < 2
min-lt x y h = omega arith

max-lt : (x y : ℕ) → x < 2 → y < 2 → max x y < 2
max-lt x y h k = omega arith

differ-lt : (x y : ℕ) → x < 2 → y < 2 → differ x y < 2
differ-lt zero y h k = k
differ-lt (suc x) zero h k = h
differ-lt (suc x) (suc y) h k = differ-lt x y (omega arith) (omega arith)

low_and : (a b : ℕ) → bit_and a b % 2 ≡ min (a % 2) (b % 2)
low_and a b = ap (λ (x : ℕ). x % 2) (and_step a b) ∙ digits_mod (bit_and (a / 2) (b / 2)) (min-lt (a % 2) (b % 2) (mod-lt a two_pos))

odd-and : (a b : ℕ) → odd (bit_and a b) ≡ odd a && odd b
unfolding odd
odd-and a b = ap (λ (x : ℕ). eqb x 1) (low_and a b) ∙ min-1 (a % 2) (b % 2) (mod-lt a two_pos) (mod-lt b two_pos)

odd-or : (a b : ℕ) → odd (bit_or a b) ≡ odd a || odd b
unfolding odd
odd-or a b =
    ap (λ (x : ℕ). eqb (x % 2) 1) (or_step a b)
    ∙ ap (λ (x : ℕ). eqb x 1) (digits_mod (bit_or (a / 2) (b / 2)) (max-lt (a % 2) (b % 2) (mod-lt a two_pos) (mod-lt b two_pos)))
    ∙ max-1 (a % 2) (b % 2) (mod-lt a two_pos) (mod-lt b two_pos)

odd-minus : (a b : ℕ) → odd (bit_xor a (bit_and a b)) ≡ odd a && not (odd b)
unfolding odd
odd-minus a b =
    ap (λ (x : ℕ). eqb (x % 2) 1) (xor_step a (bit_and a b))
    ∙ ap (λ (x : ℕ). eqb x 1) (digits_mod (bit_xor (a / 2) (bit_and a b / 2)) (differ-lt (a % 2) (bit_and a b % 2) (mod-lt a two_pos) (mod-lt (bit_and a b) two_pos)))
    ∙ ap (λ (x : ℕ). eqb (differ (a % 2) x) 1) (low_and a b)
    ∙ differ-1 (a % 2) (b % 2) (mod-lt a two_pos) (mod-lt b two_pos)

-- membership

pub has-and : (a b v : ℕ) → has (bit_and a b) v ≡ has a v && has b v
unfolding has odd
has-and a b v = ap odd (and_shr a b v) ∙ odd-and (a / 2 ^ v) (b / 2 ^ v)

pub has-or : (a b v : ℕ) → has (bit_or a b) v ≡ has a v || has b v
unfolding has odd
has-or a b v = ap odd (or_shr a b v) ∙ odd-or (a / 2 ^ v) (b / 2 ^ v)

pub has-minus : (a b v : ℕ) → has (minus a b) v ≡ has a v && not (has b v)
unfolding has odd minus
has-minus a b v =
    ap odd (xor_shr a (bit_and a b) v ∙ ap (λ (x : ℕ). bit_xor (a / 2 ^ v) x) (and_shr a b v)) ∙ odd-minus (a / 2 ^ v) (b / 2 ^ v)

pub has-zero : (v : ℕ) → has 0 v ≡ false
unfolding has
has-zero v = ap (λ (x : ℕ). eqb (x % 2) 1) (zero-div (2 ^ v))

pub has-suc : (m v : ℕ) → has m (suc v) ≡ has (m / 2) v
unfolding has
has-suc m v = ap (λ (x : ℕ). eqb (x % 2) 1) (ap (λ (k : ℕ). m / 2 ^ k) (sym (one-add v)) ∙ sym (shr-shr m 1 v))

-- no member at or above n
pub has_above : {m n : ℕ} (v : ℕ) → m < 2 ^ n → n ≤ v → has m v ≡ false
unfolding has
has_above v h l = ap (λ (x : ℕ). eqb (x % 2) 1) (div-eq_of_lt (lt_of_lt_of_le h (pow_mono l)))

-- the set of v alone
pub has-single : (v u : ℕ) → has (2 ^ v) u ≡ eqb u v
unfolding has
has-single zero zero = refl
has-single zero (suc u) = has-suc 1 u ∙ has-zero u ∙ sym (eqb-suc-zero u)
has-single (suc v) zero = ap (λ (x : ℕ). eqb x 1) (odd_pow v) ∙ sym (eqb-zero-suc v)
  where
    odd_pow : (k : ℕ) → 2 ^ suc k / 1 % 2 ≡ 0
    odd_pow k = let e = pow-suc 2 k in omega arith
has-single (suc v) (suc u) =
    has-suc (2 ^ suc v) u ∙ ap (λ (x : ℕ). has x u) (half v) ∙ has-single v u ∙ sym (eqb-suc-suc u v)
  where
    half : (k : ℕ) → 2 ^ suc k / 2 ≡ 2 ^ k
    half k = let e = pow-suc 2 k in omega arith

-- `1 << v` is the set of v alone
pub single-fits : (v : ℕ) → v < 64 → (1 * 2 ^ v) % 2 ^ 64 ≡ 2 ^ v
single-fits v h = shl_exact 1 v 64 (lit< tt) (omega arith) ∙ one-mul (2 ^ v)

-- the same members: the same set

pub half_lt : {a : ℕ} (k : ℕ) → a < 2 ^ suc k → a / 2 < 2 ^ k
half_lt k h = let e = pow-suc 2 k in omega arith

pub ext-below : (k a b : ℕ) → a < 2 ^ k → b < 2 ^ k → ((v : ℕ) → v < k → has a v ≡ has b v) → a ≡ b
unfolding has
ext-below zero a b ha hb f = lt-one ha ∙ sym (lt-one hb)
ext-below (suc k) a b ha hb f =
    let h : a / 2 ≡ b / 2 = ext-below k (a / 2) (b / 2) (half_lt k ha) (half_lt k hb) (λ v l. sym (has-suc a v) ∙ f (suc v) (omega arith) ∙ has-suc b v) in
    let one : (m : ℕ) → m / 1 ≡ m = λ m. omega arith in
    let o : eqb (a % 2) 1 ≡ eqb (b % 2) 1 = ap (λ (x : ℕ). eqb (x % 2) 1) (sym (one a)) ∙ f zero (zero-lt-suc k) ∙ ap (λ (x : ℕ). eqb (x % 2) 1) (one b) in
    let l : a % 2 ≡ b % 2 = bit-eq (a % 2) (b % 2) (mod-lt a two_pos) (mod-lt b two_pos) o in
    omega arith

pub lt-pow : (a : ℕ) → a < 2 ^ a
lt-pow zero = zero-lt-suc 0
lt-pow (suc a) = let e = pow-suc 2 a in let h = lt-pow a in omega arith

pub ext : (a b : ℕ) → ((v : ℕ) → has a v ≡ has b v) → a ≡ b
ext a b f =
    ext-below (max a b) a b (lt_of_lt_of_le (lt-pow a) (pow_mono (omega arith))) (lt_of_lt_of_le (lt-pow b) (pow_mono (omega arith))) (λ v l. f v)
