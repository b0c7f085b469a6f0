-- The ways of a typed set of sites: one law for each.
use Prim.Native.Nat.{ℕ, suc, ◌+◌, ◌≤◌, ◌<◌}
use mathlib.Core.Bool.{Bool, true, false, cond, ◌&&◌}
use mathlib.Core.List.{List, [], ◌∷◌}
use mathlib.Core.Path.{◌≡◌, refl, sym, ap, ◌∙◌}
use native.Mathlib.Omega.{arith}
use lib.Bits.{bit_or}
use lib.Pointwise.{pointwise}
use Rattle.std.proofs.lemmas.Bool.Decides.{nat_tests}
use lib.Dec.{eqb}
use lib.ListN.{length, get_or, take, drop}
use lib.Seq.{drop-cons}
use borrow.Author.Tests.{eq-eqb, ne_eqb, lt-ltb, le-ltb}
use Rattle.faulty_sites.specs.Faulty.{digit_after, sites_typed, faulty_typed}
use Rattle.masks.specs.Mask.{has, single}
use Rattle.text.specs.Text.{typed}
use Rattle.std.proofs.Common.{Option, Some, None, MatchOption}

-- at the end, and at character i
module _ (m x : ℕ) where
  pub end_none : 64 ≤ x → sites_typed m x [] ≡ None
  unfolding sites_typed
  end_none l = rw (le-ltb x 64 l) refl

  end-twice : has m x ≡ true → x < 64 → sites_typed m x [] ≡ None
  unfolding sites_typed
  end-twice e l = rw (lt-ltb x 64 l, e) refl

  end-site : has m x ≡ false → x < 64 → sites_typed m x [] ≡ Some (bit_or m (single x))
  unfolding sites_typed
  end-site e l = rw (lt-ltb x 64 l, e) refl

  -- what `with_site` answers at the end
  pub ended : (r : Option ℕ) → x < 64 → MatchOption r (has m x ≡ true) (λ y. (has m x ≡ false) × (y ≡ bit_or m (single x))) → r ≡ sites_typed m x []
  ended None l h = sym (end-twice h l)
  ended (Some y) l h = ap Some h.1 ∙ sym (end-site h.0 l)

  module _ (word : List ℕ) (i : ℕ) (h : i < length word) where
    cut : drop i word ≡ get_or word i 0 ∷ drop (i + 1) word
    cut =
        let e : suc i ≡ i + 1 = omega arith in
        drop-cons word i 0 h ∙ ap (λ (k : ℕ). get_or word i 0 ∷ drop k word) e

    module _ (e : get_or word i 0 ≡ 44) where
      pub comma-none : 64 ≤ x → sites_typed m x (drop i word) ≡ None
      unfolding sites_typed
      comma-none l = rw (cut, eq-eqb (get_or word i 0) 44 e, le-ltb x 64 l) refl

      pub comma-twice : has m x ≡ true → x < 64 → sites_typed m x (drop i word) ≡ None
      unfolding sites_typed
      comma-twice f l = rw (cut, eq-eqb (get_or word i 0) 44 e, lt-ltb x 64 l, f) refl

      pub comma-site : has m x ≡ false → x < 64 → sites_typed m x (drop i word) ≡ sites_typed (bit_or m (single x)) 64 (drop (i + 1) word)
      unfolding sites_typed
      comma-site f l = rw (cut, eq-eqb (get_or word i 0) 44 e, lt-ltb x 64 l, f) refl

    pub no-comma : (get_or word i 0 ≡ 44 → ⊥) → sites_typed m x (drop i word) ≡ sites_typed m (digit_after x (get_or word i 0)) (drop (i + 1) word)
    unfolding sites_typed
    no-comma e = rw (cut, ne_eqb (get_or word i 0) 44 e) refl

-- what is no site does not become one
stays : (b : ℕ) → digit_after 65 b ≡ 65
unfolding digit_after
stays b = grind (arith, nat_tests)

pub no_site : (m : ℕ) (l : List ℕ) → sites_typed m 65 l ≡ None
unfolding sites_typed
no_site m [] = refl
no_site m (b ∷ l) = rw (stays b, no_site m l) (same (eqb b 44) None)
  where
    same : (t : Bool) (n : Option ℕ) → cond t n n ≡ n
    same true n = refl
    same false n = refl

-- the word as a whole
test : (t : Bool) → t && true ≡ t
test true = refl
test false = refl

pub typed-mask : (word : List ℕ) → pointwise eqb (take 1 word) (115 ∷ []) ≡ false → faulty_typed word ≡ typed word
unfolding faulty_typed typed
typed-mask [] h = refl
typed-mask (b ∷ l) h = rw (sym (test (eqb b 115)) ∙ h) refl

module _ (word rest : List ℕ) (h : pointwise eqb (take 1 word) (115 ∷ []) ≡ true) (e : rest ≡ drop 1 word) where
  pub typed-nobody : true ≡ eqb (length rest) 0 → Some 0 ≡ faulty_typed word
  unfolding faulty_typed
  typed-nobody z = of word h (rw e at z)
    where
      of : (word : List ℕ) → pointwise eqb (take 1 word) (115 ∷ []) ≡ true → true ≡ eqb (length (drop 1 word)) 0 → Some 0 ≡ faulty_typed word
      of [] h z = cc
      of (b ∷ l) h z = rw (sym (test (eqb b 115)) ∙ h, sym z) refl

  pub typed-sites : false ≡ eqb (length rest) 0 → sites_typed 0 64 rest ≡ faulty_typed word
  unfolding faulty_typed
  typed-sites z = rw e (of word h (rw e at z))
    where
      of : (word : List ℕ) → pointwise eqb (take 1 word) (115 ∷ []) ≡ true → false ≡ eqb (length (drop 1 word)) 0 → sites_typed 0 64 (drop 1 word) ≡ faulty_typed word
      of [] h z = cc
      of (b ∷ l) h z = rw (sym (test (eqb b 115)) ∙ h, sym z) refl
