-- Laws of `least`.
use Prim.Native.Nat.{ℕ, zero, suc, ◌≤◌, ◌<◌}
use mathlib.Core.Bool.{Bool, true, false, cond}
use mathlib.Core.Logic.{⊎_elim}
use mathlib.Core.Path.{◌≡◌, refl, sym, ap, ◌∙◌, subst}
use native.Mathlib.Nat.{not-suc-le-zero, le_of_suc-le-suc, eq-or-lt_of_le, le_refl, le-suc, le_trans}
use native.Mathlib.Omega.{arith}
use borrow.Author.Tests.{lt-ltb, le-ltb}
use Rattle.ground.specs.Search.{least}
use Rattle.ground.proofs.Logic.{clash, cases}

at-end : (k : ℕ) (p : ℕ → Bool) → least k p ≡ k → least (suc k) p ≡ cond (p k) k (suc k)
unfolding least
at-end k p e = rw (e, le-ltb k k (le_refl k)) refl

found : (k : ℕ) (p : ℕ → Bool) → least k p < k → least (suc k) p ≡ least k p
unfolding least
found k p l = rw (lt-ltb (least k p) k l) refl

pub least-none : (p : ℕ → Bool) → least 0 p ≡ 0
unfolding least
least-none p = refl

pub least-hit : (k i : ℕ) (p : ℕ → Bool) → i < k → least i p ≡ i → p i ≡ true → least k p ≡ i
least-hit zero i p l e h = absurd (not-suc-le-zero l)
least-hit (suc k) i p l e h =
    let ih = least-hit k i p in
    ⊎_elim (λ q. let e' : least k p ≡ k = subst (λ (x : ℕ). least x p ≡ x) q e in at-end k p e' ∙ ap (λ (b : Bool). cond b k (suc k)) (subst (λ (x : ℕ). p x ≡ true) q h) ∙ sym q)
    (λ m. let r = ih m e h in found k p (subst (λ (x : ℕ). x < k) (sym r) m) ∙ r) (eq-or-lt_of_le (le_of_suc-le-suc l))

pub least-le : (k : ℕ) (p : ℕ → Bool) → least k p ≤ k
least-le zero p = subst (λ (x : ℕ). x ≤ 0) (sym (least-none p)) (le_refl 0)
least-le (suc k) p =
    let ih = least-le k p in
    ⊎_elim (λ e. ⊎_elim (λ h. subst (λ (x : ℕ). x ≤ suc k) (sym (at-end k p e ∙ ap (λ (b : Bool). cond b k (suc k)) h)) (le-suc k))
    (λ h. subst (λ (x : ℕ). x ≤ suc k) (sym (at-end k p e ∙ ap (λ (b : Bool). cond b k (suc k)) h)) (le_refl (suc k))) (cases (p k)))
    (λ l. subst (λ (x : ℕ). x ≤ suc k) (sym (found k p l)) (le_trans ih (le-suc k))) (eq-or-lt_of_le ih)

-- it passes, and nothing before it does
pub least-passes : (k : ℕ) (p : ℕ → Bool) → least k p < k → p (least k p) ≡ true
least-passes zero p l = absurd (not-suc-le-zero l)
least-passes (suc k) p l =
    let ih = least-passes k p in
    ⊎_elim
    (λ e. ⊎_elim (λ h. subst (λ (x : ℕ). p x ≡ true) (sym (at-end k p e ∙ ap (λ (b : Bool). cond b k (suc k)) h)) h)
    (λ h. let q : least (suc k) p ≡ suc k = at-end k p e ∙ ap (λ (b : Bool). cond b k (suc k)) h in absurd (not-suc-le-zero (bad l q))) (cases (p k)))
    (λ m. subst (λ (x : ℕ). p x ≡ true) (sym (found k p m)) (ih m)) (eq-or-lt_of_le (least-le k p))
  where
    bad : least (suc k) p < suc k → least (suc k) p ≡ suc k → 1 ≤ 0
    bad l q = omega arith

pub least-before : (k : ℕ) (p : ℕ → Bool) (j : ℕ) → j < least k p → p j ≡ false
least-before zero p j l = absurd (not-suc-le-zero (subst (λ (x : ℕ). j < x) (least-none p) l))
least-before (suc k) p j l =
    let ih = least-before k p j in
    ⊎_elim
    (λ e. ⊎_elim (λ h. ih (subst (λ (x : ℕ). j < x) (at-end k p e ∙ ap (λ (b : Bool). cond b k (suc k)) h ∙ sym e) l))
    (λ h. ⊎_elim (λ q. ap p q ∙ h) (λ m. ih (subst (λ (x : ℕ). j < x) (sym e) m))
    (eq-or-lt_of_le (le_of_suc-le-suc (subst (λ (x : ℕ). j < x) (at-end k p e ∙ ap (λ (b : Bool). cond b k (suc k)) h) l)))) (cases (p k)))
    (λ m. ih (subst (λ (x : ℕ). j < x) (found k p m) l)) (eq-or-lt_of_le (least-le k p))

-- none passes
pub least-fails : (k : ℕ) (p : ℕ → Bool) → ((j : ℕ) → j < k → p j ≡ false) → least k p ≡ k
least-fails k p f =
    ⊎_elim (λ e. e) (λ l. absurd (clash (least-passes k p l) (f (least k p) l))) (eq-or-lt_of_le (least-le k p))

-- i passes, and none before it
pub least-found : (k i : ℕ) (p : ℕ → Bool) → i < k → ((j : ℕ) → j < i → p j ≡ false) → p i ≡ true → least k p ≡ i
least-found k i p l f e = least-hit k i p l (least-fails i p f) e
