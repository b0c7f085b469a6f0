-- The sites that pass a test, gathered into a set as a loop gathers them.
use Prim.Native.Nat.{ℕ, zero, suc, ◌+◌, ◌*◌, ◌^◌, ◌≤◌, ◌<◌}
use mathlib.Core.Bool.{Bool, true, false, ◌&&◌, ◌||◌, cond, or-false}
use mathlib.Core.Logic.{⊎_elim}
use mathlib.Core.Path.{◌≡◌, refl, sym, ap, ap₂, ◌∙◌}
use native.Mathlib.Nat.{le_refl, zero-lt-suc, pow-suc, one-mul, add_comm, add-zero}
use native.Mathlib.Omega.{arith}
use lib.Bits.{bit_or, or_shifted_r}
use lib.Dec.{eqb, ltb}
use borrow.Author.Tests.{eqb-true, eqb-false, eq-eqb, ne_eqb, ltb-true, ltb-false, lt-ltb, le-ltb}
use Rattle.ground.proofs.Logic.{and_r, and_i, cases}
use Rattle.masks.specs.Mask.{has, gather, ◌∈◌}
use Rattle.masks.proofs.Laws.Members.{has-or, has-zero, has-single}
use Rattle.masks.proofs.Laws.Subsets.{mem}

-- the sites that pass a test

pub gather-lt : (n : ℕ) (p : ℕ → Bool) → gather n p < 2 ^ n
unfolding gather
gather-lt zero p = zero-lt-suc 0
gather-lt (suc n) p = let e = pow-suc 2 n in let h = gather-lt n p in go (p n) e h
  where
    go : (b : Bool) → 2 ^ suc n ≡ 2 ^ n * 2 → gather n p < 2 ^ n → gather n p + cond b (2 ^ n) 0 < 2 ^ suc n
    go true e h = omega arith
    go false e h = omega arith

-- the step of a loop that gathers
pub gather-in : (n : ℕ) (p : ℕ → Bool) → p n ≡ true → gather (suc n) p ≡ bit_or (gather n p) (2 ^ n)
unfolding gather
gather-in n p e =
    ap (λ (b : Bool). gather n p + cond b (2 ^ n) 0) e ∙ add_comm (gather n p) (2 ^ n)
    ∙ sym (ap (bit_or (gather n p)) (sym (one-mul (2 ^ n))) ∙ or_shifted_r 1 n (gather n p) (gather-lt n p) ∙ ap (λ (x : ℕ). x + gather n p) (one-mul (2 ^ n)))

pub gather-out : (n : ℕ) (p : ℕ → Bool) → p n ≡ false → gather (suc n) p ≡ gather n p
unfolding gather
gather-out n p e = ap (λ (b : Bool). gather n p + cond b (2 ^ n) 0) e ∙ add-zero (gather n p)

tri : {A : Type 0} (v n : ℕ) → (v < n → A) → (v ≡ n → A) → (n < v → A) → A
tri v n f g h =
    ⊎_elim (λ a. f (ltb-true v n a))
    (λ a. ⊎_elim (λ b. g (eqb-true v n b)) (λ b. h (lt_of (ltb-false v n a) (eqb-false v n b))) (cases (eqb v n))) (cases (ltb v n))
  where
    lt_of : n ≤ v → (v ≡ n → ⊥) → n < v
    lt_of l f = omega arith

one_more : (n : ℕ) (p : ℕ → Bool) (v : ℕ) → p n ≡ true → (ltb v n && p v) || eqb v n ≡ ltb v (suc n) && p v
one_more n p v e =
    tri v n
    (λ l. rw (lt-ltb v n l, lt-ltb v (suc n) (omega arith), ne_eqb v n (omega arith), or-false) refl)
    (λ l. rw (l, le-ltb n n (le_refl n), lt-ltb n (suc n) (le_refl (suc n)), eq-eqb n n refl, e) refl)
    (λ l. rw (le-ltb v n (omega arith), le-ltb v (suc n) l, ne_eqb v n (omega arith)) refl)

none_more : (n : ℕ) (p : ℕ → Bool) (v : ℕ) → p n ≡ false → ltb v n && p v ≡ ltb v (suc n) && p v
none_more n p v e =
    tri v n
    (λ l. rw (lt-ltb v n l, lt-ltb v (suc n) (omega arith)) refl)
    (λ l. rw (l, le-ltb n n (le_refl n), lt-ltb n (suc n) (le_refl (suc n)), e) refl)
    (λ l. rw (le-ltb v n (omega arith), le-ltb v (suc n) l) refl)

pub has-gather : (n : ℕ) (p : ℕ → Bool) (v : ℕ) → has (gather n p) v ≡ ltb v n && p v
unfolding gather
has-gather zero p v = has-zero v ∙ sym (ap (λ (b : Bool). b && p v) (le-ltb v 0 (omega arith)))
has-gather (suc n) p v =
    let ih = has-gather n p v in
    ⊎_elim
    (λ e. ap (λ (x : ℕ). has x v) (gather-in n p e) ∙ has-or (gather n p) (2 ^ n) v ∙ ap₂ ◌||◌ ih (has-single n v) ∙ one_more n p v e)
    (λ e. ap (λ (x : ℕ). has x v) (gather-out n p e) ∙ ih ∙ none_more n p v e) (cases (p n))

pub ∈-gather : {n v : ℕ} (p : ℕ → Bool) → v < n → p v ≡ true → v ∈ gather n p
∈-gather {n} {v} p l e = mem (has-gather n p v ∙ and_i (lt-ltb v n l) e)

pub gather-∈ : (n : ℕ) (p : ℕ → Bool) {v : ℕ} → v ∈ gather n p → p v ≡ true
gather-∈ n p {v} h = and_r (ltb v n) (p v) (sym (has-gather n p v) ∙ h.holds)
