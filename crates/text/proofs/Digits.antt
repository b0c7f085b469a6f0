-- What typed digits are worth, and the mask that they are.
use Prim.Native.Nat.{ℕ, zero, suc, ◌+◌, ◌*◌, ◌^◌, ◌≤◌, ◌<◌}
use mathlib.Core.Bool.{Bool, true}
use mathlib.Core.List.{List, [], ◌∷◌}
use mathlib.Core.Path.{◌≡◌, refl}
use native.Mathlib.Nat.{le_refl, le-suc, le_trans, lt_of_lt_of_le, pow-le-pow_right, pow-succ'}
use native.Mathlib.Numerals.{add-one}
use native.Mathlib.Omega.{arith}
use lib.Dec.{ltb}
use lib.ListN.{length, get_or}
use borrow.Author.Tests.{lt-ltb, le-ltb, ltb-true}
use Rattle.std.proofs.lemmas.Bool.Decides.{nat_tests}
use Rattle.std.specs.Char.{digit_value}
use Rattle.ground.specs.Search.{every}
use Rattle.ground.proofs.Every.{every_of, every-at, every-not}
use Rattle.text.specs.Text.{worth, value, typed}
use Rattle.std.proofs.Common.{Some, None}

-- the byte is a digit
abbrev pub digit : List ℕ → ℕ → Bool
digit l i = ltb (worth (get_or l i 0)) 16

pub value_none : (l : List ℕ) → value l 0 ≡ 0
unfolding value
value_none l = refl

pub value-more : (l : List ℕ) (i : ℕ) → value l (i + 1) ≡ 16 * value l i + worth (get_or l i 0)
unfolding value
value-more l i = rw (add-one i) refl

-- k digits are below 16 ^ k
value-below : (l : List ℕ) (k : ℕ) → every k (digit l) ≡ true → value l k < 16 ^ k
value-below l zero e = rw (value_none l) (omega arith)
value-below l (suc k) e =
    let d = ltb-true (worth (get_or l k 0)) 16 (every-at (suc k) (digit l) e k (le_refl (suc k))) in
    let r = value-below l k (every_of k (digit l) (λ j h. every-at (suc k) (digit l) e j (le_trans h (le-suc k)))) in
    rw (← add-one k, value-more l k, add-one k, pow-succ' 16 k) (omega arith)

-- 16 digits fit a 64-bit number
pub value-fits : (l : List ℕ) (k : ℕ) → k ≤ 16 → every k (digit l) ≡ true → value l k < 2 ^ 64
value-fits l k h e = lt_of_lt_of_le (value-below l k e) (le_trans (pow-le-pow_right {n = 16} (omega arith) h) (omega arith))

-- a byte is worth its value as a digit, if that is below 16
pub worth-digit : (b : ℕ) → digit_value b < 16 → worth b ≡ digit_value b
unfolding worth
worth-digit b h = grind (arith, nat_tests)

worth-none : (b : ℕ) → 16 ≤ digit_value b → worth b ≡ 16
unfolding worth
worth-none b h = grind (arith, nat_tests)

pub digit-at : (l : List ℕ) (i : ℕ) → digit_value (get_or l i 0) < 16 → digit l i ≡ true
digit-at l i h = lt-ltb (worth (get_or l i 0)) 16 (rw (worth-digit (get_or l i 0) h) h)

-- the ways out
pub wrong_length : (l : List ℕ) → (1 ≤ length l → 16 < length l) → typed l ≡ None
unfolding typed
wrong_length [] h = refl
wrong_length (b ∷ l) h = rw (le-ltb (length (b ∷ l)) 1 (omega arith), lt-ltb 16 (length (b ∷ l)) (h (omega arith))) refl

pub no_digit : (l : List ℕ) (i : ℕ) → 1 ≤ length l → length l ≤ 16 → i < length l → (digit_value (get_or l i 0) < 16 → ⊥) → typed l ≡ None
unfolding typed
no_digit l i a b h v =
    let w : 16 ≤ worth (get_or l i 0) = rw (worth-none (get_or l i 0) (omega arith)) (omega arith) in
    rw (le-ltb (length l) 1 a, le-ltb 16 (length l) b, every-not (length l) (digit l) h (le-ltb (worth (get_or l i 0)) 16 w)) refl

pub all_digits : (l : List ℕ) → 1 ≤ length l → length l ≤ 16 → every (length l) (digit l) ≡ true → typed l ≡ Some (value l (length l))
unfolding typed
all_digits l a b e = rw (le-ltb (length l) 1 a, le-ltb 16 (length l) b, e) refl
