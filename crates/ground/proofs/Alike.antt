-- Laws of `alike`: it says true exactly of equal lists.
use Prim.Native.Nat.{ℕ}
use mathlib.Core.Bool.{true, false, false≢true}
use mathlib.Core.List.{List, [], ◌∷◌}
use mathlib.Core.Path.{◌≡◌, refl, ap₂, subst}
use lib.Dec.{eqb}
use borrow.Author.Tests.{eq-eqb, eqb-true}
use Rattle.ground.specs.Alike.{alike}
use Rattle.ground.proofs.Logic.{and_l, and_r, and_i, is_false}

pub alike-eq : (s t : List ℕ) → alike s t ≡ true → s ≡ t
alike-eq [] [] h = refl
alike-eq [] (y ∷ t) h = absurd (false≢true h)
alike-eq (x ∷ s) [] h = absurd (false≢true h)
alike-eq (x ∷ s) (y ∷ t) h =
    ap₂ {C = List ℕ} (λ a b. a ∷ b) (eqb-true x y (and_l (eqb x y) (alike s t) h)) (alike-eq s t (and_r (eqb x y) (alike s t) h))

pub alike_refl : (s : List ℕ) → alike s s ≡ true
alike_refl [] = refl
alike_refl (x ∷ s) = and_i (eq-eqb x x refl) (alike_refl s)

pub eq-alike : (s t : List ℕ) → s ≡ t → alike s t ≡ true
eq-alike s t e = subst (λ (x : List ℕ). alike s x ≡ true) e (alike_refl s)

pub ne-alike : (s t : List ℕ) → (s ≡ t → ⊥) → alike s t ≡ false
ne-alike s t f = is_false (alike s t) (λ e. f (alike-eq s t e))
