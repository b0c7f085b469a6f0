-- The set of one site; and what a union or a difference holds.
use Prim.Native.Nat.{ℕ}
use mathlib.Core.Bool.{false}
use mathlib.Core.Logic.{◌⊎◌, inl, inr, ⊎_elim}
use mathlib.Core.Path.{◌≡◌, refl, sym, ◌∙◌, subst}
use lib.Bits.{bit_or}
use borrow.Author.Tests.{eqb-true, eq-eqb}
use Rattle.ground.proofs.Logic.{clash, cases, or-e}
use Rattle.masks.specs.Mask.{has, single, minus, ◌∈◌, ◌⊆◌}
use Rattle.masks.proofs.Laws.Members.{has-or, has-single}
use Rattle.masks.proofs.Laws.Subsets.{mem, ⊆-trans, ⊆-antisym, or-⊆, or-⊆-l, or-⊆-r, minus-⊆, ∈-minus, minus-not-in}

-- a site is in a set or not
pub in? : (v m : ℕ) → (v ∈ m) ⊎ (v ∈ m → ⊥)
in? v m = ⊎_elim (λ e. inl (mem e)) (λ e. inr (λ h. clash h.holds e)) (cases (has m v))

pub not_in : {v m : ℕ} → has m v ≡ false → v ∈ m → ⊥
not_in e h = clash h.holds e

-- a member of an equal set
pub ∈-eq : {v a b : ℕ} → a ≡ b → v ∈ a → v ∈ b
∈-eq {v} e h = subst (λ (m : ℕ). v ∈ m) e h

-- the set of v alone
pub ∈-single : (v : ℕ) → v ∈ single v
∈-single v = mem (has-single v v ∙ eq-eqb v v refl)

pub single-∈ : {u : ℕ} (v : ℕ) → u ∈ single v → u ≡ v
single-∈ {u} v h = eqb-true u v (sym (has-single v u) ∙ h.holds)

pub single-⊆ : {v m : ℕ} → v ∈ m → single v ⊆ m
single-⊆ {v} {m} h = record { each = λ u k. subst (λ (x : ℕ). x ∈ m) (sym (single-∈ v k)) h }

-- a member of a union is a member of one of the two
pub ∈-or : {v : ℕ} (a b : ℕ) → v ∈ bit_or a b → (v ∈ a) ⊎ (v ∈ b)
∈-or {v} a b h = ⊎_elim (λ e. inl (mem e)) (λ e. inr (mem e)) (or-e (has a v) (has b v) (sym (has-or a b v) ∙ h.holds))

-- a union and a difference grow with their sets
pub or-grows : {a b c d : ℕ} → a ⊆ c → b ⊆ d → bit_or a b ⊆ bit_or c d
or-grows {a} {b} {c} {d} p q = or-⊆ (⊆-trans p (or-⊆-l c d)) (⊆-trans q (or-⊆-r c d))

pub minus-grows : {a b : ℕ} (c : ℕ) → a ⊆ b → minus a c ⊆ minus b c
minus-grows {a} c p = record { each = λ v h. ∈-minus (p.each v ((minus-⊆ a c).each v h)) (minus-not-in a h) }

-- what is taken out may be put in before
pub minus-added : {b c : ℕ} (a : ℕ) → b ⊆ c → minus (bit_or a b) c ≡ minus a c
minus-added {b} {c} a p = ⊆-antisym (record { each = λ v h. ∈-minus (old v h) (minus-not-in (bit_or a b) h) }) (minus-grows c (or-⊆-l a b))
  where
    old : (v : ℕ) → v ∈ minus (bit_or a b) c → v ∈ a
    old v h = ⊎_elim (λ k. k) (λ k. absurd (minus-not-in (bit_or a b) h (p.each v k))) (∈-or a b ((minus-⊆ (bit_or a b) c).each v h))
