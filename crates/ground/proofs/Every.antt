-- Laws of `every`.
use Prim.Native.Nat.{ℕ, zero, suc, ◌+◌, ◌<◌}
use mathlib.Core.Bool.{Bool, true, false, ◌&&◌, true≢false}
use mathlib.Core.Logic.{⊎_elim}
use mathlib.Core.Path.{◌≡◌, refl, sym, ap, ◌∙◌}
use native.Mathlib.Nat.{not-suc-le-zero, le_of_suc-le-suc, eq-or-lt_of_le, le_refl, le-suc, le_trans}
use native.Mathlib.Numerals.{add-one}
use Rattle.ground.specs.Search.{every}
use Rattle.ground.proofs.Logic.{and_l, and_r, and_i, is_false, clash, cases}

pub every_of : (k : ℕ) (p : ℕ → Bool) → ((j : ℕ) → j < k → p j ≡ true) → every k p ≡ true
unfolding every
every_of zero p f = refl
every_of (suc k) p f = and_i (every_of k p (λ j l. f j (le_trans l (le-suc k)))) (f k (le_refl (suc k)))

pub every-at : (k : ℕ) (p : ℕ → Bool) → every k p ≡ true → (j : ℕ) → j < k → p j ≡ true
unfolding every
every-at zero p e j l = absurd (not-suc-le-zero l)
every-at (suc k) p e j l =
    let ih = every-at k p in
    ⊎_elim (λ q. ap p q ∙ and_r (every k p) (p k) e) (λ m. ih (and_l (every k p) (p k) e) j m) (eq-or-lt_of_le (le_of_suc-le-suc l))

-- one that fails
pub every-not : (k : ℕ) (p : ℕ → Bool) {j : ℕ} → j < k → p j ≡ false → every k p ≡ false
every-not k p {j} l e = is_false (every k p) (λ h. clash (every-at k p h j l) e)

pub every-none : (p : ℕ → Bool) → every 0 p ≡ true
unfolding every
every-none p = refl

pub every-suc : (i : ℕ) (p : ℕ → Bool) → every (i + 1) p ≡ every i p && p i
unfolding every
every-suc i p = ap (λ (k : ℕ). every k p) (add-one i)

pub every_more : (i : ℕ) (p : ℕ → Bool) → every i p ≡ true → p i ≡ true → every (i + 1) p ≡ true
every_more i p e f = every-suc i p ∙ and_i e f

-- not all pass: one fails
pub every-fails : (k : ℕ) (p : ℕ → Bool) → every k p ≡ false → (j : ℕ) × (j < k) × (p j ≡ false)
unfolding every
every-fails zero p e = absurd (true≢false e)
every-fails (suc k) p e =
    let ih = every-fails k p in
    ⊎_elim (λ h. (k, le_refl (suc k), sym (ap (λ (b : Bool). b && p k) h) ∙ e)) (λ h. let r = ih h in (r.0, le_trans r.1 (le-suc k), r.2))
    (cases (every k p))
