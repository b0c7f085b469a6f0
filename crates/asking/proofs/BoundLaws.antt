-- Laws of bounds: the largest quorum inside a set bounds the sets inside it.
use Prim.Native.Nat.{ℕ}
use mathlib.Core.Bool.{Bool, true, false, cond}
use mathlib.Core.List.{List}
use mathlib.Core.Logic.{⊎_elim}
use mathlib.Core.Path.{◌≡◌, refl, sym, ap, ◌∙◌}
use lib.Bits.{bit_and}
use Rattle.ground.proofs.Logic.{cases}
use Rattle.masks.proofs.Laws.Subsets.{⊆-refl, ⊆-trans, ⊆-antisym, ⊆-zero, within-⊆, and-⊆-l, ∈-and}
use Rattle.masks.specs.Mask.{has, within, ◌⊆◌}
use Rattle.sets.proofs.Lawful.{inside-grows}
use Rattle.sets.proofs.Quorum.{largest-⊆, largest-still, largest-contains, largest-grows}
use Rattle.sets.proofs.Rows.{rows-lawful, quorum-asked}
use Rattle.sets.specs.Inner.Rows.{Rows, rules_of, row_questions}
use Rattle.sets.specs.Promises.{Questions}
use Rattle.sets.specs.Quorum.{largest}
use Rattle.asking.specs.Inner.{Bounds, bounded_by}

inside_both : {w a b : ℕ} → w ⊆ a → w ⊆ b → w ⊆ bit_and a b
inside_both i j = record { each = λ v h. ∈-and (i.each v h) (j.each v h) }

-- a set bounds the sets inside it; whatever bounds the empty set
pub bounds-itself : (Q : Questions) (larger : ℕ) → Bounds Q larger larger
bounds-itself Q larger = record { each = λ v w i. ap (Q.in_quorum v) (⊆-antisym (inside_both (⊆-refl w) i) (and-⊆-l w larger)) }

pub bounds-empty : (Q : Questions) (bound : ℕ) → Bounds Q 0 bound
bounds-empty Q bound =
    record { each = λ v w i. ap (Q.in_quorum v) (⊆-antisym (inside_both (⊆-refl w) (⊆-trans i (⊆-zero bound))) (and-⊆-l w bound)) }

-- the largest quorum inside a set bounds the sets inside it
module _ {t : List ℕ} {n : ℕ} (rows : Rows t n) where
  pub bounds-largest : (larger : ℕ) → Bounds (row_questions t n) larger (largest (rules_of t).inside n larger)
  bounds-largest larger =
      record {
        each = λ v w i.
            let s = (rules_of t).inside in
            let bound = largest s n larger in
            let rule = inside-grows (rows-lawful rows) in
            let small = inside_both (largest-⊆ s n w) (largest-grows s n rule i) in
            sym (quorum-asked t n v w)
            ∙ ap (λ (x : ℕ). has x v)
            (⊆-antisym (largest-contains s n rule (largest-still s n w) (bit_and w bound) small) (largest-grows s n rule (and-⊆-l w bound)))
            ∙ quorum-asked t n v (bit_and w bound);
      }

-- what is left of w, by whether w is inside the larger set
module _ (larger bound w : ℕ) {b : Bool} (e : b ≡ within w larger) where
  pub left-common : b ≡ true → bit_and w bound ≡ bounded_by larger bound w
  unfolding bounded_by
  left-common t = ap (λ (x : Bool). cond x (bit_and w bound) w) (sym t ∙ e)

  pub left-whole : b ≡ false → w ≡ bounded_by larger bound w
  unfolding bounded_by
  left-whole t = ap (λ (x : Bool). cond x (bit_and w bound) w) (sym t ∙ e)

-- who belongs to the largest quorum inside w belongs to that inside what is left of it
pub left-same : {Q : Questions} {larger bound : ℕ} → Bounds Q larger bound → (v w : ℕ) → Q.in_quorum v w ≡ Q.in_quorum v (bounded_by larger bound w)
left-same {Q} {larger} {bound} B v w =
    ⊎_elim (λ e. B.each v w (within-⊆ w larger e) ∙ ap (Q.in_quorum v) (left-common larger bound w refl e))
    (λ e. ap (Q.in_quorum v) (left-whole larger bound w refl e)) (cases (within w larger))
