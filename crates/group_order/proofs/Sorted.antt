-- What a number's way through ascending numbers leaves: one number more, of the same kind, ascending.
use Prim.Native.Nat.{ℕ, zero, suc, ◌≤◌, ◌<◌}
use mathlib.Core.Bool.{Bool, true, false, cond}
use mathlib.Core.List.{List, [], ◌∷◌, ◌++◌}
use mathlib.Core.Logic.{⊎_elim}
use mathlib.Core.Path.{◌≡◌, refl, ap, ◌∙◌}
use native.Mathlib.Omega.{arith}
use lib.Dec.{ltb}
use lib.ListN.{length, get_or}
use borrow.Author.Tests.{ltb-true, ltb-false, le-ltb}
use Rattle.ground.proofs.Logic.{cases}
use Rattle.group_order.proofs.Laws.{sift-step}
use Rattle.group_order.specs.Joined.{sift}

-- each number of a list is of a kind
pub data Each (P : ℕ → Type 0) : List ℕ → Type 0 where
  none : Each P []
  more : {x : ℕ} {l : List ℕ} → P x → Each P l → Each P (x ∷ l)

-- each number of a list is below all that follow
pub data Ascends : List ℕ → Type 0 where
  empty : Ascends []
  lower : {x : ℕ} {l : List ℕ} → Each (λ y. x < y) l → Ascends l → Ascends (x ∷ l)

pub each_at : {P : ℕ → Type 0} {l : List ℕ} → Each P l → (i : ℕ) → i < length l → P (get_or l i 0)
each_at none i h = absurd (omega arith)
each_at (more p e) zero h = p
each_at (more p e) (suc i) h = each_at e i (omega arith)

pub each_of : (P : ℕ → Type 0) (l : List ℕ) → ((i : ℕ) → i < length l → P (get_or l i 0)) → Each P l
each_of P [] f = none
each_of P (x ∷ l) f = more (f 0 (omega arith)) (each_of P l (λ i h. f (suc i) (omega arith)))

pub each_map : {P : ℕ → Type 0} (Q : ℕ → Type 0) {l : List ℕ} → ((x : ℕ) → P x → Q x) → Each P l → Each Q l
each_map Q f none = none
each_map Q f (more {x = x} p e) = more (f x p) (each_map Q f e)

pub ascends-at : {l : List ℕ} → Ascends l → (i : ℕ) → suc i < length l → get_or l i 0 < get_or l (suc i) 0
ascends-at empty i h = absurd (omega arith)
ascends-at (lower u a) zero h = each_at u 0 (omega arith)
ascends-at (lower u a) (suc i) h = ascends-at a i (omega arith)

pub length-sift : (q : ℕ) (l : List ℕ) → length (sift q l) ≡ suc (length l)
unfolding sift
length-sift q [] = refl
length-sift q (x ∷ l) = ap length (sift-step q x l) ∙ ap suc (length-sift (cond (ltb q x) x q) l)

either : (P : ℕ → Type 0) (b : Bool) (x y : ℕ) → P x → P y → P (cond b x y)
either P true x y p q = p
either P false x y p q = q

pub each-sift : (P : ℕ → Type 0) (q : ℕ) (l : List ℕ) → P q → Each P l → Each P (sift q l)
unfolding sift
each-sift P q [] p none = more p none
each-sift P q (x ∷ l) p (more r e) =
    rw (sift-step q x l) (more (either P (ltb q x) q x p r) (each-sift P (cond (ltb q x) x q) l (either P (ltb q x) x q r p) e))

-- q is none of the numbers
pub ascends-sift : (q : ℕ) (l : List ℕ) → Each (λ x. x ≡ q → ⊥) l → Ascends l → Ascends (sift q l)
unfolding sift
ascends-sift q [] none empty = lower none empty
ascends-sift q (x ∷ l) (more n e) (lower u a) =
    ⊎_elim
    (λ t. let h = ltb-true q x t in
    rw t
    (lower (each-sift (λ y. q < y) x l h (each_map (λ y. q < y) (λ y g. omega arith) u))
    (ascends-sift x l (each_map (λ y. y ≡ x → ⊥) (λ y g z. omega arith) u) a)))
    (λ f. let h = ltb-false q x f in
    rw f (lower (each-sift (λ y. x < y) q l (above x q h n) u) (ascends-sift q l e a)))
    (cases (ltb q x))
  where
    above : (x q : ℕ) → x ≤ q → (x ≡ q → ⊥) → x < q
    above x q h n = omega arith

-- a number above all of them comes last
pub sift-last : (q : ℕ) (l : List ℕ) → Each (λ x. x < q) l → sift q l ≡ l ++ (q ∷ [])
unfolding sift
sift-last q [] none = refl
sift-last q (x ∷ l) (more h e) = rw (le-ltb q x (omega arith)) (ap (λ (k : List ℕ). x ∷ k) (sift-last q l e))
