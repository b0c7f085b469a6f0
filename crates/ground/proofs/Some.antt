-- Laws of `some`.
use Prim.Native.Nat.{ℕ, zero, suc, ◌+◌, ◌<◌}
use mathlib.Core.Bool.{Bool, true, false, ◌||◌, false≢true}
use mathlib.Core.Logic.{⊎_elim}
use mathlib.Core.Path.{◌≡◌, refl, ap, ap₂, ◌∙◌, subst}
use native.Mathlib.Nat.{not-suc-le-zero, le_of_suc-le-suc, eq-or-lt_of_le, le_refl, le-suc, le_trans}
use native.Mathlib.Numerals.{add-one}
use Rattle.ground.specs.Search.{some}
use Rattle.ground.proofs.Logic.{is_false, clash, or-i, or-e}

pub some_of : (k : ℕ) (p : ℕ → Bool) {j : ℕ} → j < k → p j ≡ true → some k p ≡ true
unfolding some
some_of zero p l e = absurd (not-suc-le-zero l)
some_of (suc k) p {j} l e =
    ⊎_elim (λ q. or-i (some k p) (p k) (subst (λ (x : ℕ). p x ≡ true) q e)) (λ m. ap (λ (b : Bool). b || p k) (some_of k p m e)) (eq-or-lt_of_le (le_of_suc-le-suc l))

pub some-ex : (k : ℕ) (p : ℕ → Bool) → some k p ≡ true → (j : ℕ) × (j < k) × (p j ≡ true)
unfolding some
some-ex zero p e = absurd (false≢true e)
some-ex (suc k) p e =
    let ih = some-ex k p in
    ⊎_elim (λ a. let r = ih a in (r.0, le_trans r.1 (le-suc k), r.2)) (λ b. (k, le_refl (suc k), b)) (or-e (some k p) (p k) e)

pub some_more : (i : ℕ) (p : ℕ → Bool) → some i p ≡ false → p i ≡ false → some (i + 1) p ≡ false
unfolding some
some_more i p e f = ap (λ (k : ℕ). some k p) (add-one i) ∙ ap₂ ◌||◌ e f

pub some-none : (p : ℕ → Bool) → some 0 p ≡ false
unfolding some
some-none p = refl

pub some-suc : (i : ℕ) (p : ℕ → Bool) → some (i + 1) p ≡ some i p || p i
unfolding some
some-suc i p = ap (λ (k : ℕ). some k p) (add-one i)

-- none passes: each fails
pub none_each : (k : ℕ) (p : ℕ → Bool) (j : ℕ) → some k p ≡ false → j < k → p j ≡ false
none_each k p j e l = is_false (p j) (λ h. clash (some_of k p l h) e)

pub each_none : (k : ℕ) (p : ℕ → Bool) → ((j : ℕ) → j < k → p j ≡ false) → some k p ≡ false
each_none k p f = is_false (some k p) (λ h. let r = some-ex k p h in clash r.2 (f r.0 r.1))
