-- Equal answers say the same.
use Prim.Native.Nat.{ℕ}
use mathlib.Core.List.{List}
use mathlib.Core.Path.{◌≡◌, ap, ◌∙◌}
use Rattle.telling.specs.Telling.{Said}

-- what is said of an answer is said of an equal one
pub said : {A : Type 0} (of : A → Said) {x y : A} {number : ℕ} {out : List ℕ} → x ≡ y →
    (number ≡ (of x).number) × (out ≡ (of x).out) → (number ≡ (of y).number) × (out ≡ (of y).out)
said of e p = (p.0 ∙ ap (λ z. (of z).number) e, p.1 ∙ ap (λ z. (of z).out) e)
