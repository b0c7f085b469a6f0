-- Laws of the first refusal: how a chain of checks ends, and what follows where it is sound.
use Prim.Native.Nat.{ℕ, zero, suc, ◌+◌, ◌<◌}
use mathlib.Core.Bool.{Bool, true, false, not}
use mathlib.Core.Logic.{⊎_elim}
use mathlib.Core.Path.{◌≡◌, refl, sym, subst}
use native.Mathlib.Nat.{not-suc-le-zero, le_of_suc-le-suc, eq-or-lt_of_le}
use native.Mathlib.Numerals.{add-one}
use native.Mathlib.Omega.{arith}
use Rattle.refusals.specs.First.{or_else, refuse, first}
use Rattle.refusals.specs.Check.{Check}
use Rattle.std.specs.Prelude.{Ok, Err}
use Rattle.refusals.specs.declared.Refusal.{Refusal}

-- one check more that is sound
pub first_more : (f : ℕ → Check) (i : ℕ) → first f i ≡ Ok tt → f i ≡ Ok tt → first f (i + 1) ≡ Ok tt
unfolding first
first_more f i p q = rw (add-one i, p) q

-- a refusal stands
first-keeps : (f : ℕ → Check) (i : ℕ) (r : Refusal) → first f i ≡ Err r → first f (suc i) ≡ Err r
unfolding first
first-keeps f i r p = rw p refl

-- the check at i refuses, and those before it are sound
pub first-stop : (f : ℕ → Check) (n i : ℕ) (r : Refusal) → i < n → first f i ≡ Ok tt → f i ≡ Err r → first f n ≡ Err r
unfolding first
first-stop f zero i r l p q = absurd (not-suc-le-zero l)
first-stop f (suc n) i r l p q =
    ⊎_elim
    (λ e. let p' : first f n ≡ Ok tt = subst (λ (k : ℕ). first f k ≡ Ok tt) e p in
    let q' : f n ≡ Err r = subst (λ (k : ℕ). f k ≡ Err r) e q in
    rw p' q')
    (λ lt. first-keeps f n r (first-stop f n i r lt p q))
    (eq-or-lt_of_le (le_of_suc-le-suc l))

-- where all is sound, each is
pub or_else-sound : (a b : Check) → or_else a b ≡ Ok tt → (a ≡ Ok tt) × (b ≡ Ok tt)
or_else-sound (Ok tt) b h = (refl, h)
or_else-sound (Err r) b h = let z : ◌≡◌ {A = ℕ} 0 1 = cc in absurd (omega arith)

pub first-all : (f : ℕ → Check) (n i : ℕ) → first f n ≡ Ok tt → i < n → f i ≡ Ok tt
unfolding first
first-all f zero i p l = absurd (not-suc-le-zero l)
first-all f (suc n) i p l =
    let q = or_else-sound (first f n) (f n) p in
    ⊎_elim (λ e. subst (λ (k : ℕ). f k ≡ Ok tt) (sym e) q.1) (λ lt. first-all f n i q.0 lt) (eq-or-lt_of_le (le_of_suc-le-suc l))

-- and the other way
pub first-sound : (f : ℕ → Check) (n : ℕ) → ((i : ℕ) → i < n → f i ≡ Ok tt) → first f n ≡ Ok tt
unfolding first
first-sound f zero h = refl
first-sound f (suc n) h = rw (first-sound f n (λ i l. h i (omega arith))) (h n (omega arith))

-- the same check at each place
pub first_alike : (f g : ℕ → Check) (n : ℕ) → ((k : ℕ) → k < n → f k ≡ g k) → first f n ≡ first g n
unfolding first
first_alike f g zero h = refl
first_alike f g (suc n) h = rw (first_alike f g n (λ k l. h k (omega arith)), h n (omega arith)) refl

-- a test that did not refuse
pub kept : (p : Bool) (r : Refusal) → refuse p r ≡ Ok tt → p ≡ false
kept true r h = let z : ◌≡◌ {A = ℕ} 0 1 = cc in absurd (omega arith)
kept false r h = refl

-- a test that refuses was passed
pub missed : (p : Bool) (r : Refusal) (s : Check) → or_else (refuse p r) s ≡ Ok tt → (p ≡ false) × (s ≡ Ok tt)
missed true r s h = let z : ◌≡◌ {A = ℕ} 0 1 = cc in absurd (omega arith)
missed false r s h = (refl, h)

pub passed : (p : Bool) (r : Refusal) (s : Check) → or_else (refuse (not p) r) s ≡ Ok tt → (p ≡ true) × (s ≡ Ok tt)
passed true r s h = (refl, h)
passed false r s h = let z : ◌≡◌ {A = ℕ} 0 1 = cc in absurd (omega arith)
