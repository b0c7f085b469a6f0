-- Laws of what is kept from one question to the next.
use Prim.Native.Nat.{ℕ, ◌<◌}
use mathlib.Core.List.{List, [], ◌∷◌}
use mathlib.Core.Path.{◌≡◌, refl, sym, ap, ◌∙◌, subst}
use native.Mathlib.Omega.{arith}
use lib.ListN.{get_or, set, length-set}
use lib.Seq.{get_or-set_same, get_or-set_other}
use Rattle.masks.proofs.Laws.Members.{has-zero}
use Rattle.masks.specs.Mask.{has}
use Rattle.sets.proofs.Without.{outside}
use Rattle.sets.specs.Paper.{Fbqs}
use Rattle.sets.specs.Promises.{Questions, Promises}
use Rattle.asking.specs.Inner.{Asked, Bounds}
use Rattle.asking.proofs.BoundLaws.{bounds-itself, bounds-empty}

-- nobody was asked: the empty set has no quorum
pub asked-none : {S : ℕ → Fbqs} {Q : Questions} → Promises S Q → (n larger : ℕ) → Asked Q n (0 ∷ 0 ∷ larger ∷ larger ∷ [])
asked-none {Q = Q} P n larger = record { four = refl; known = λ v h. has-zero v ∙ outside P v 0 (has-zero v); bounds = bounds-itself Q larger }

module _ {Q : Questions} {n : ℕ} {asked : List ℕ} (A : Asked Q n asked) where
  -- the set w was asked, and m has who belongs
  pub asked-now : (w m : ℕ) → ((v : ℕ) → v < n → has m v ≡ Q.in_quorum v w) → Asked Q n (set (set asked 0 w) 1 m)
  asked-now w m e =
      let four = length-set asked 0 w ∙ A.four in
      let kept : (i : ℕ) → (i ≡ 0 → ⊥) → (i ≡ 1 → ⊥) → get_or (set (set asked 0 w) 1 m) i 0 ≡ get_or asked i 0 =
      λ i p q. get_or-set_other (set asked 0 w) 1 i m 0 (λ z. q z) ∙ get_or-set_other asked 0 i w 0 (λ z. p z) in
      record {
        four = length-set (set asked 0 w) 1 m ∙ four;
        known = λ v h.
            ap (λ (x : ℕ). has x v) (get_or-set_same (set asked 0 w) 1 m 0 (omega arith)) ∙ e v h
            ∙ ap (Q.in_quorum v)
            (sym (get_or-set_other (set asked 0 w) 1 0 m 0 (λ z. omega arith) ∙ get_or-set_same asked 0 w 0 (omega (arith, A.four))));
        bounds = subst (λ (x : ℕ). Bounds Q x (get_or (set (set asked 0 w) 1 m) 3 0)) (sym (kept 2 (λ z. omega arith) (λ z. omega arith)))
            (subst (Bounds Q (get_or asked 2 0)) (sym (kept 3 (λ z. omega arith) (λ z. omega arith))) A.bounds);
      }

  -- a new bound
  pub bounded-now : (bound : ℕ) → Bounds Q (get_or asked 2 0) bound → Asked Q n (set asked 3 bound)
  bounded-now bound B =
      let kept : (i : ℕ) → (i ≡ 3 → ⊥) → get_or (set asked 3 bound) i 0 ≡ get_or asked i 0 = λ i p. get_or-set_other asked 3 i bound 0 (λ z. p z) in
      record {
        four = length-set asked 3 bound ∙ A.four;
        known = λ v h.
            ap (λ (x : ℕ). has x v) (kept 1 (λ z. omega arith)) ∙ A.known v h ∙ ap (Q.in_quorum v) (sym (kept 0 (λ z. omega arith)));
        bounds = subst (λ (x : ℕ). Bounds Q x (get_or (set asked 3 bound) 3 0)) (sym (kept 2 (λ z. omega arith)))
            (subst (Bounds Q (get_or asked 2 0)) (sym (get_or-set_same asked 3 bound 0 (omega (arith, A.four)))) B);
      }

  -- nothing is bounded any longer
  pub unbounded-now : Asked Q n (set asked 2 0)
  unbounded-now =
      let kept : (i : ℕ) → (i ≡ 2 → ⊥) → get_or (set asked 2 0) i 0 ≡ get_or asked i 0 = λ i p. get_or-set_other asked 2 i 0 0 (λ z. p z) in
      record {
        four = length-set asked 2 0 ∙ A.four;
        known = λ v h.
            ap (λ (x : ℕ). has x v) (kept 1 (λ z. omega arith)) ∙ A.known v h ∙ ap (Q.in_quorum v) (sym (kept 0 (λ z. omega arith)));
        bounds = subst (λ (x : ℕ). Bounds Q x (get_or (set asked 2 0) 3 0)) (sym (get_or-set_same asked 2 0 0 (omega (arith, A.four))))
            (bounds-empty Q (get_or (set asked 2 0) 3 0));
      }
