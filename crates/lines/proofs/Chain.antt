-- Texts one behind the other are one text.
use Prim.Native.Nat.{ℕ, ◌≤◌}
use mathlib.Core.List.{List, ◌++◌, append_assoc}
use mathlib.Core.Path.{◌≡◌, subst}
use lib.ListN.{length}
use Rattle.io.specs.Counts.{IsPrefixLen}
use Rattle.text.proofs.Written.{then, counted}
use Rattle.text.specs.Written.{Writes}

-- the same text, said in another way
pub as-text : {A B before after : List ℕ} {at end : ℕ} → A ≡ B → Writes A before at end after → Writes B before at end after
as-text {before = before} {after = after} {at = at} {end = end} e w = subst (λ (T : List ℕ). Writes T before at end after) e w

-- what a public function says of its text
pub both : {T before after : List ℕ} {at end : ℕ} → Writes T before at end after → Writes T before at end after × IsPrefixLen end after
both w = (w, counted w)

module _ {A B C r₀ r₁ r₂ r₃ : List ℕ} {p₀ p₁ p₂ p₃ : ℕ} (a : Writes A r₀ p₀ p₁ r₁) (b : Writes B r₁ p₁ p₂ r₂) (c : Writes C r₂ p₂ p₃ r₃) where
  pub three : p₀ ≤ length r₀ → Writes (A ++ (B ++ C)) r₀ p₀ p₃ r₃
  three h = as-text (append_assoc A B C) (then (then a b h) c h)

  module _ {D E r₄ r₅ : List ℕ} {p₄ p₅ : ℕ} (d : Writes D r₃ p₃ p₄ r₄) (e : Writes E r₄ p₄ p₅ r₅) where
    left : p₀ ≤ length r₀ → Writes ((((A ++ B) ++ C) ++ D) ++ E) r₀ p₀ p₅ r₅
    left h = then (then (then (then a b h) c h) d h) e h

    -- a word, three texts as what is said of it, and the end of the line
    pub five : p₀ ≤ length r₀ → Writes (A ++ ((B ++ (C ++ D)) ++ E)) r₀ p₀ p₅ r₅
    five h = as-text (grouped A B C D E) (left h)
      where
        grouped : (A B C D E : List ℕ) → (((A ++ B) ++ C) ++ D) ++ E ≡ A ++ ((B ++ (C ++ D)) ++ E)
        grouped A B C D E = simp append_assoc

    module _ {F G r₆ r₇ : List ℕ} {p₆ p₇ : ℕ} (f : Writes F r₅ p₅ p₆ r₆) (g : Writes G r₆ p₆ p₇ r₇) where
      pub seven : p₀ ≤ length r₀ → Writes (A ++ (B ++ (C ++ (D ++ (E ++ (F ++ G)))))) r₀ p₀ p₇ r₇
      seven h = as-text (grouped A B C D E F G) (then (then (left h) f h) g h)
        where
          grouped : (A B C D E F G : List ℕ) → (((((A ++ B) ++ C) ++ D) ++ E) ++ F) ++ G ≡ A ++ (B ++ (C ++ (D ++ (E ++ (F ++ G)))))
          grouped A B C D E F G = simp append_assoc
