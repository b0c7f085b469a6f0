-- Words of letters and digits: nothing stops in them, and they are heard whole.
use Prim.Native.Nat.{ℕ, ◌≤◌, ◌<◌}
use mathlib.Core.Bool.{Bool, true, false, false≢true, ◌&&◌, not}
use mathlib.Core.List.{List, [], ◌∷◌}
use mathlib.Core.Path.{◌≡◌, refl, ap}
use native.Mathlib.Omega.{arith}
use lib.Dec.{eqb, ltb}
use lib.ListN.{length}
use borrow.Author.Tests.{ltb-true, eqb-true, ne_eqb, not-true}
use Rattle.ground.proofs.Every.{every-at}
use Rattle.ground.proofs.Logic.{and_l, and_r}
use Rattle.ground.specs.Search.{every, least}
use Rattle.call_words.specs.declared.Word.{Word}
use Rattle.call_words.specs.Word.{lower, meant}
use Rattle.calls_text.specs.Pieces.{stops}
use Rattle.text.specs.Text.{decimal, digit_count}

-- a byte of a word
unfoldable pub clean : ℕ → Bool
clean b = ltb 47 b && not (eqb b 59)

unfoldable pub all-clean : List ℕ → Bool
unfolding clean
all-clean [] = true
all-clean (b ∷ t) = clean b && all-clean t

above : (b : ℕ) → clean b ≡ true → 47 < b
unfolding clean
above b e = ltb-true 47 b (and_l (ltb 47 b) (not (eqb b 59)) e)

no-semicolon : (b : ℕ) → clean b ≡ true → eqb b 59 ≡ false
unfolding clean
no-semicolon b e = not-true (eqb b 59) (and_r (ltb 47 b) (not (eqb b 59)) e)

pub no_stop : (kind b : ℕ) → kind ≤ 47 → clean b ≡ true → stops kind b ≡ false
unfolding stops
no_stop kind b k e =
    let h = above b e in
    rw (ne_eqb b kind (λ z. omega arith), ne_eqb b 9 (λ z. omega arith), ne_eqb b 44 (λ z. omega arith), no-semicolon b e) (and-false (eqb kind 32))
  where
    and-false : (x : Bool) → x && false ≡ false
    and-false true = refl
    and-false false = refl

-- all bytes below 256 are shown as clean words that are read as these numbers
abbrev is_number : Word → ℕ → Bool
is_number (Word.Number n) x = eqb n x
is_number (Word.Kind kind) x = false
is_number (Word.Side side) x = false
is_number Word.Other x = false

the_number : (w : Word) (x : ℕ) → is_number w x ≡ true → w ≡ Word.Number x
the_number (Word.Number n) x h = ap (λ (k : ℕ). Word.Number k) (eqb-true n x h)
the_number (Word.Kind kind) x h = absurd (false≢true h)
the_number (Word.Side side) x h = absurd (false≢true h)
the_number Word.Other x h = absurd (false≢true h)

unfoldable good : ℕ → Bool
unfolding all-clean decimal meant
good x = all-clean (decimal x) && (ltb 0 (length (decimal x)) && is_number (meant (decimal x)) x)

all-good : every 256 good ≡ true
unfolding every good all-clean clean decimal digit_count least meant lower
all-good = refl

module _ (x : ℕ) (h : x < 256) where
  each : good x ≡ true
  each = every-at 256 good all-good x h

  pub decimal-clean : all-clean (decimal x) ≡ true
  unfolding good
  decimal-clean = and_l (all-clean (decimal x)) _ each

  pub decimal-filled : 0 < length (decimal x)
  unfolding good
  decimal-filled = ltb-true 0 (length (decimal x)) (and_l (ltb 0 (length (decimal x))) _ (and_r (all-clean (decimal x)) _ each))

  pub decimal-meant : meant (decimal x) ≡ Word.Number x
  unfolding good
  decimal-meant = the_number (meant (decimal x)) x (and_r (ltb 0 (length (decimal x))) _ (and_r (all-clean (decimal x)) _ each))
