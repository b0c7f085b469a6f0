-- Counting up through the sets with no member of b: the next after p is `minus (bit_or p b + 1) b`.
use Prim.Native.Nat.{ℕ, ◌+◌, ◌*◌, ◌/◌, ◌%◌, ◌≤◌, ◌<◌, max}
use mathlib.Core.Logic.{⊎_elim}
use mathlib.Core.Path.{◌≡◌, sym, ap, ◌∙◌, subst}
use native.Mathlib.Nat.{mod-lt}
use native.Mathlib.Omega.{arith}
use lib.Arith.{bin_ind}
use lib.Bits.{bit_or, or_step, or_disjoint}
use lib.Dec.{eqb}
use borrow.Author.Tests.{eqb-true, eqb-false}
use Rattle.ground.proofs.Logic.{cases}
use Rattle.masks.specs.Mask.{minus, ◌⊆◌}
use Rattle.masks.proofs.Laws.Apart.{minus-apart, minus-⊆-or}
use Rattle.masks.proofs.Laws.Members.{two_pos}
use Rattle.masks.proofs.Laws.Size.{halve-⊆, low-⊆}
use Rattle.masks.proofs.Laws.Subsets.{⊆-refl, ⊆-trans, ⊆-antisym, or-⊆, or-⊆-l, or-⊆-r, minus-⊆}

-- a set and a part of it
pub or-part : {a b : ℕ} → b ⊆ a → bit_or a b ≡ a
or-part {a} {b} s = ⊆-antisym (or-⊆ (⊆-refl a) s) (or-⊆-l a b)

-- the least number above x that contains b, if x contains b: digit by digit
next-digit : (x b u : ℕ) → b ⊆ x → b ⊆ u → x < u → (x % 2 ≡ 1 → x / 2 < u / 2 → bit_or (x / 2 + 1) (b / 2) ≤ u / 2) → bit_or (x + 1) b ≤ u
next-digit x b u bx bu l ih =
    subst (λ (y : ℕ). y ≤ u) (sym (or_step (x + 1) b))
    (⊎_elim (λ e. even (eqb-true (x % 2) 0 e) (or-part (halve-⊆ bx)) (mod-lt b two_pos))
    (λ e. odd (mod-lt x two_pos) (eqb-false (x % 2) 0 e) (low-⊆ bu)) (cases (eqb (x % 2) 0)))
  where
    even : x % 2 ≡ 0 → bit_or (x / 2) (b / 2) ≡ x / 2 → b % 2 < 2 → bit_or ((x + 1) / 2) (b / 2) * 2 + max ((x + 1) % 2) (b % 2) ≤ u
    even e p h =
        let half : (x + 1) / 2 ≡ x / 2 = omega arith in
        let top : bit_or ((x + 1) / 2) (b / 2) ≡ x / 2 = ap (λ (y : ℕ). bit_or y (b / 2)) half ∙ p in
        omega arith

    odd : x % 2 < 2 → (x % 2 ≡ 0 → ⊥) → b % 2 ≤ u % 2 → bit_or ((x + 1) / 2) (b / 2) * 2 + max ((x + 1) % 2) (b % 2) ≤ u
    odd h ne low =
        let half : (x + 1) / 2 ≡ x / 2 + 1 = omega arith in
        let top : bit_or ((x + 1) / 2) (b / 2) ≤ u / 2 = subst (λ (y : ℕ). bit_or y (b / 2) ≤ u / 2) (sym half) (ih (omega arith) (omega arith)) in
        omega arith

pub next-with : (x b u : ℕ) → b ⊆ x → b ⊆ u → x < u → bit_or (x + 1) b ≤ u
next-with =
    bin_ind (λ (x : ℕ). (b u : ℕ) → b ⊆ x → b ⊆ u → x < u → bit_or (x + 1) b ≤ u)
    (λ b u bx bu l. next-digit 0 b u bx bu l (λ o k. absurd (zero-even o)))
    (λ x ih b u bx bu l. next-digit x b u bx bu l (λ o k. ih (b / 2) (u / 2) (halve-⊆ bx) (halve-⊆ bu) k))
  where
    zero-even : 0 % 2 ≡ 1 → ⊥
    zero-even e = omega arith

-- a set without b, and with b again
pub minus-or : (m b : ℕ) → minus m b + b ≡ bit_or m b
minus-or m b =
    sym (or_disjoint (minus m b) b (minus-apart m b))
    ∙ ⊆-antisym (or-⊆ (⊆-trans (minus-⊆ m b) (or-⊆-l m b)) (or-⊆-r m b)) (or-⊆ (minus-⊆-or m b (minus m b) (⊆-refl (minus m b))) (or-⊆-r (minus m b) b))
