-- Parts of a set: order, intersection, union, difference; the empty set.
use Prim.Native.Nat.{ℕ, zero, suc, ◌^◌, ◌≤◌, ◌<◌}
use mathlib.Core.Bool.{Bool, true, ◌&&◌, ◌||◌, not}
use mathlib.Core.Logic.{◌⊎◌, inl, inr, ⊎_elim}
use mathlib.Core.Path.{◌≡◌, sym, ap, ◌∙◌, subst}
use native.Mathlib.Nat.{not-suc-le-zero, le_of_suc-le-suc, eq-or-lt_of_le}
use native.Mathlib.Omega.{arith}
use lib.Bits.{bit_and, bit_or, and_le_r}
use lib.Dec.{ltb}
use borrow.Author.Tests.{eqb-true, eq-eqb, ltb-true, ltb-false}
use Rattle.ground.proofs.Logic.{and_l, and_r, and_i, iff, is_false, clash, cases, absorb, or-i, or-e, not_t}
use Rattle.masks.specs.Mask.{has, within, minus, ◌∈◌, ◌⊆◌}
use Rattle.masks.proofs.Laws.Members.{has-and, has-or, has-minus, has-zero, has_above, lt-pow, ext}

-- a part of a set

pub mem : {v m : ℕ} → has m v ≡ true → v ∈ m
mem e = record { holds = e }

pub ⊆-refl : (q : ℕ) → q ⊆ q
⊆-refl q = record { each = λ v h. h }

pub ⊆-trans : {a b c : ℕ} → a ⊆ b → b ⊆ c → a ⊆ c
⊆-trans p q = record { each = λ v h. q.each v (p.each v h) }

pub ⊆-antisym : {a b : ℕ} → a ⊆ b → b ⊆ a → a ≡ b
⊆-antisym {a} {b} p q =
    ext a b (λ v. iff (has a v) (has b v) (λ h. (p.each v (mem h)).holds) (λ h. (q.each v (mem h)).holds))

pub not-in-zero : {v : ℕ} → v ∈ 0 → ⊥
not-in-zero {v} h = clash h.holds (has-zero v)

pub ⊆-zero : (u : ℕ) → 0 ⊆ u
⊆-zero u = record { each = λ v h. absurd (not-in-zero h) }

-- the computed test says the same
pub within-⊆ : (q u : ℕ) → within q u ≡ true → q ⊆ u
unfolding within
within-⊆ q u e =
    record { each = λ v h. mem (and_r (has q v) (has u v) (sym (has-and q u v) ∙ ap (λ (x : ℕ). has x v) (eqb-true (bit_and q u) q e) ∙ h.holds)) }

pub ⊆-within : {q u : ℕ} → q ⊆ u → within q u ≡ true
unfolding within
⊆-within {q} {u} s =
    eq-eqb (bit_and q u) q (ext (bit_and q u) q (λ v. has-and q u v ∙ absorb (has q v) (has u v) (λ h. (s.each v (mem h)).holds)))

pub ⊆-le : {q u : ℕ} → q ⊆ u → q ≤ u
unfolding within
⊆-le {q} {u} s = subst (λ (x : ℕ). x ≤ u) (eqb-true (bit_and q u) q (⊆-within s)) (and_le_r q u)

pub ∈-below : {v m n : ℕ} → m < 2 ^ n → v ∈ m → v < n
∈-below {v} {m} {n} h e = ⊎_elim (λ p. ltb-true v n p) (λ p. absurd (clash e.holds (has_above v h (ltb-false v n p)))) (cases (ltb v n))

pub ∈-and : {v a b : ℕ} → v ∈ a → v ∈ b → v ∈ bit_and a b
∈-and {v} {a} {b} p q = mem (has-and a b v ∙ and_i p.holds q.holds)

pub and-⊆-l : (a b : ℕ) → bit_and a b ⊆ a
and-⊆-l a b = record { each = λ v h. mem (and_l (has a v) (has b v) (sym (has-and a b v) ∙ h.holds)) }

pub and-⊆-r : (a b : ℕ) → bit_and a b ⊆ b
and-⊆-r a b = record { each = λ v h. mem (and_r (has a v) (has b v) (sym (has-and a b v) ∙ h.holds)) }

pub or-⊆-l : (a b : ℕ) → a ⊆ bit_or a b
or-⊆-l a b = record { each = λ v h. mem (has-or a b v ∙ ap (λ (x : Bool). x || has b v) h.holds) }

pub or-⊆-r : (a b : ℕ) → b ⊆ bit_or a b
or-⊆-r a b = record { each = λ v h. mem (has-or a b v ∙ or-i (has a v) (has b v) h.holds) }

pub or-⊆ : {a b u : ℕ} → a ⊆ u → b ⊆ u → bit_or a b ⊆ u
or-⊆ {a} {b} {u} p q =
    record { each = λ v h. ⊎_elim (λ x. p.each v (mem x)) (λ x. q.each v (mem x)) (or-e (has a v) (has b v) (sym (has-or a b v) ∙ h.holds)) }

pub minus-⊆ : (a b : ℕ) → minus a b ⊆ a
minus-⊆ a b = record { each = λ v h. mem (and_l (has a v) (not (has b v)) (sym (has-minus a b v) ∙ h.holds)) }

pub below-⊆ : (n : ℕ) {q u : ℕ} → q ⊆ u → u < 2 ^ n → q < 2 ^ n
below-⊆ n s h = let l = ⊆-le s in omega arith

pub ∈-minus : {v a b : ℕ} → v ∈ a → (v ∈ b → ⊥) → v ∈ minus a b
∈-minus {v} {a} {b} p f = mem (has-minus a b v ∙ and_i p.holds (ap not (is_false (has b v) (λ e. f (mem e)))))

pub minus-not-in : {v : ℕ} (a : ℕ) {b : ℕ} → v ∈ minus a b → v ∈ b → ⊥
minus-not-in {v} a {b} p q = clash q.holds (not_t (has b v) (and_r (has a v) (not (has b v)) (sym (has-minus a b v) ∙ p.holds)))

-- a set with no member is empty, and one that is not has a member
pub empty : (m : ℕ) → ((v : ℕ) → v ∈ m → ⊥) → m ≡ 0
empty m f = ext m 0 (λ v. is_false (has m v) (λ e. f v (mem e)) ∙ sym (has-zero v))

pub member_of : (m : ℕ) → (m ≡ 0 → ⊥) → (v : ℕ) × (v ∈ m)
member_of m ne = go m ne
  where
    look : (k : ℕ) → ((v : ℕ) × (v ∈ m)) ⊎ ((v : ℕ) → v < k → v ∈ m → ⊥)
    look zero = inr (λ v l h. not-suc-le-zero l)
    look (suc k) =
        let ih = look k in
        ⊎_elim (λ r. inl r)
        (λ f. ⊎_elim (λ e. inl (k, mem e))
        (λ e. inr (λ v l h. ⊎_elim (λ q. clash h.holds (ap (has m) q ∙ e)) (λ q. f v q h) (eq-or-lt_of_le (le_of_suc-le-suc l)))) (cases (has m k))) ih

    go : (k : ℕ) → (m ≡ 0 → ⊥) → (v : ℕ) × (v ∈ m)
    go k ne = ⊎_elim (λ r. r) (λ f. absurd (ne (empty m (λ v h. f v (∈-below (lt-pow m) h) h)))) (look m)

-- deleting from a part, or adding to the whole
-- taken out once is taken out
pub minus-again : (a b : ℕ) → minus (minus a b) b ≡ minus a b
minus-again a b = ⊆-antisym (minus-⊆ (minus a b) b) (record { each = λ v h. ∈-minus h (minus-not-in a h) })

-- two sets together are inside a set if each is
pub or-within : (a b u : ℕ) → within (bit_or a b) u ≡ within a u && within b u
or-within a b u =
    iff (within (bit_or a b) u) (within a u && within b u)
    (λ e. let s = within-⊆ (bit_or a b) u e in and_i (⊆-within (⊆-trans (or-⊆-l a b) s)) (⊆-within (⊆-trans (or-⊆-r a b) s)))
    (λ e. ⊆-within (or-⊆ (within-⊆ a u (and_l (within a u) (within b u) e)) (within-⊆ b u (and_r (within a u) (within b u) e))))

pub minus-within : (q b u : ℕ) → within (minus q b) u ≡ within q (bit_or u b)
minus-within q b u =
    iff (within (minus q b) u) (within q (bit_or u b))
    (λ e. ⊆-within (record { each = λ v h. ⊎_elim (λ i. (or-⊆-r u b).each v (mem i)) (λ i. (or-⊆-l u b).each v ((within-⊆ (minus q b) u e).each v (∈-minus h (λ k. clash k.holds i)))) (cases (has b v)) }))
    (λ e. ⊆-within (record { each = λ v h. ⊎_elim (λ i. mem i) (λ i. absurd (minus-not-in q h (mem i))) (or-e (has u v) (has b v) (sym (has-or u b v) ∙ ((within-⊆ q (bit_or u b) e).each v ((minus-⊆ q b).each v h)).holds)) }))

pub minus-lt : (n a b : ℕ) → a < 2 ^ n → minus a b < 2 ^ n
minus-lt n a b h = below-⊆ n (minus-⊆ a b) h
