-- Laws of words: a word is a name just if its letters in small are.
use Prim.Native.Nat.{ℕ}
use mathlib.Core.Bool.{Bool, true, false, false≢true}
use mathlib.Core.List.{List, [], ◌∷◌, map}
use mathlib.Core.Path.{◌≡◌, refl, sym, ap₂, subst, ◌∙◌}
use native.Mathlib.Omega.{arith}
use lib.Dec.{eqb}
use borrow.Author.Tests.{eq-eqb, eqb-true}
use Rattle.std.proofs.lemmas.Bool.Decides.{nat_tests}
use Rattle.std.specs.Bool.{IsTrue}
use Rattle.std.specs.Char.{to_ascii_lowercase}
use Rattle.std.specs.Prelude.{◌↔◌}
use Rattle.ground.proofs.Logic.{and_l, and_r, is_false}
use Rattle.call_words.specs.Word.{lower, spells}

-- a letter in small
small : (b : ℕ) → to_ascii_lowercase b ≡ lower b
unfolding lower
small b = grind (arith, nat_tests)

spells-small : (w name : List ℕ) → spells w name ≡ true → map to_ascii_lowercase w ≡ name
spells-small [] [] h = refl
spells-small [] (y ∷ t) h = absurd (false≢true h)
spells-small (x ∷ s) [] h = absurd (false≢true h)
spells-small (x ∷ s) (y ∷ t) h =
    ap₂ {C = List ℕ} (λ a b. a ∷ b) (small x ∙ eqb-true (lower x) y (and_l (eqb (lower x) y) (spells s t) h)) (spells-small s t (and_r (eqb (lower x) y) (spells s t) h))

spells-itself : (w : List ℕ) → spells w (map to_ascii_lowercase w) ≡ true
spells-itself [] = refl
spells-itself (x ∷ s) = rw (eq-eqb (lower x) (to_ascii_lowercase x) (sym (small x)), spells-itself s) refl

pub spelt : (w name : List ℕ) (r : Bool) → (IsTrue r ↔ (map to_ascii_lowercase w ≡ name)) → spells w name ≡ r
spelt w name true h = subst (λ (n : List ℕ). spells w n ≡ true) (h.0 refl) (spells-itself w)
spelt w name false h = is_false (spells w name) (λ e. false≢true (h.1 (spells-small w name e)))
