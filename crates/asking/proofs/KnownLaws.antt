-- Laws of what a run keeps of the sets asked in vain.
use Prim.Native.Nat.{ℕ}
use mathlib.Core.Bool.{Bool, true, false, not}
use mathlib.Core.List.{List}
use mathlib.Core.Path.{◌≡◌, refl, sym, ap, ◌∙◌, subst}
use native.Mathlib.Omega.{arith}
use lib.ListN.{get_or, set, replicate, length-set}
use lib.Seq.{get_or-set_same, get_or-set_other}
use Rattle.ground.proofs.Logic.{not_t}
use Rattle.masks.specs.Mask.{has}
use Rattle.sets.proofs.Without.{outside}
use Rattle.sets.specs.Paper.{Fbqs}
use Rattle.sets.specs.Promises.{Questions, Promises}
use Rattle.asking.specs.Inner.{Bounds, Known, bounded_by, hopeless}
use Rattle.asking.proofs.BoundLaws.{bounds-itself, left-same}

-- at first nothing is known
pub known-none : (Q : Questions) → Known Q (replicate 4 0)
known-none Q = record { four = refl; bounds = bounds-itself Q 0 }

-- m is what is left of w, and b whether the site is in it
pub hopeless-of : (known : List ℕ) (v w : ℕ) {m : ℕ} {b : Bool} → m ≡ bounded_by (get_or known 0 0) (get_or known 1 0) w → b ≡ has m v → not b ≡ hopeless known v w
unfolding hopeless
hopeless-of known v w em eb = ap not (eb ∙ ap (λ (x : ℕ). has x v) em)

-- a site without hope belongs to no quorum inside w
pub hopeless-none : {S : ℕ → Fbqs} {Q : Questions} → Promises S Q → {known : List ℕ} → Known Q known → (v w : ℕ) → hopeless known v w ≡ true → Q.in_quorum v w ≡ false
unfolding hopeless
hopeless-none P {known} K v w e =
    let left = bounded_by (get_or known 0 0) (get_or known 1 0) w in
    left-same K.bounds v w ∙ sym (outside P v left (not_t (has left v) e))

module _ {Q : Questions} {known : List ℕ} (K : Known Q known) where
  -- whatever stands at the other places
  pub known_kept : (i x : ℕ) → (0 ≡ i → ⊥) → (1 ≡ i → ⊥) → Known Q (set known i x)
  known_kept i x p q =
      record {
        four = length-set known i x ∙ K.four;
        bounds = subst (λ (y : ℕ). Bounds Q y (get_or (set known i x) 1 0)) (sym (get_or-set_other known i 0 x 0 p))
            (subst (Bounds Q (get_or known 0 0)) (sym (get_or-set_other known i 1 x 0 q)) K.bounds);
      }

  -- a new bound
  pub known-now : (larger bound : ℕ) → Bounds Q larger bound → Known Q (set (set known 0 larger) 1 bound)
  known-now larger bound B =
      let four = length-set known 0 larger ∙ K.four in
      record {
        four = length-set (set known 0 larger) 1 bound ∙ four;
        bounds = subst (λ (y : ℕ). Bounds Q y (get_or (set (set known 0 larger) 1 bound) 1 0))
            (sym (get_or-set_other (set known 0 larger) 1 0 bound 0 (λ z. omega arith) ∙ get_or-set_same known 0 larger 0 (omega (arith, K.four))))
            (subst (Bounds Q larger) (sym (get_or-set_same (set known 0 larger) 1 bound 0 (omega arith))) B);
      }
