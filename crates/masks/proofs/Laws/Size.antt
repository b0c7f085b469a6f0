-- How many members a set has.
use Prim.Native.Nat.{ℕ, zero, suc, ◌/◌, ◌%◌, ◌^◌, ◌≤◌, ◌<◌}
use mathlib.Core.Bool.{true}
use mathlib.Core.Logic.{⊎_elim}
use mathlib.Core.Path.{◌≡◌, refl, sym, ap, ◌∙◌}
use native.Mathlib.Nat.{le_of_eq, not-suc-le-zero, le_of_suc-le-suc, mod-lt, eq-or-lt_of_le}
use native.Mathlib.Omega.{arith}
use lib.Arith.{lt-one}
use lib.Count.{ones, ones_step}
use lib.Dec.{eqb}
use borrow.Author.Tests.{eqb-true}
use Rattle.masks.specs.Mask.{has, ◌⊆◌}
use Rattle.masks.proofs.Laws.Members.{two_pos, has-suc, half_lt, lt-pow}
use Rattle.masks.proofs.Laws.Subsets.{mem, below-⊆}

-- how many members

-- a part of a set has no more members, and a part with as many is the set
pub halve-⊆ : {a b : ℕ} → a ⊆ b → a / 2 ⊆ b / 2
halve-⊆ {a} {b} s = record { each = λ v h. mem (sym (has-suc b v) ∙ (s.each (suc v) (mem (has-suc a v ∙ h.holds))).holds) }

pub low-⊆ : {a b : ℕ} → a ⊆ b → a % 2 ≤ b % 2
unfolding has
low-⊆ {a} {b} s = bit_le (a % 2) (b % 2) (mod-lt a two_pos) (λ h. ap (λ (x : ℕ). eqb (x % 2) 1) (sym (one b)) ∙ (s.each zero (mem (ap (λ (x : ℕ). eqb (x % 2) 1) (one a) ∙ h))).holds)
  where
    one : (m : ℕ) → m / 1 ≡ m
    one m = omega arith

    bit_le : (x y : ℕ) → x < 2 → (eqb x 1 ≡ true → eqb y 1 ≡ true) → x ≤ y
    bit_le zero y h f = omega arith
    bit_le (suc zero) y h f = le_of_eq (sym (eqb-true y 1 (f refl)))
    bit_le (suc (suc x)) y h f = absurd (not-suc-le-zero (le_of_suc-le-suc (le_of_suc-le-suc h)))

size-go : (k : ℕ) {a b : ℕ} → a < 2 ^ k → b < 2 ^ k → a ⊆ b → (ones a ≤ ones b) × (ones b ≤ ones a → a ≡ b)
size-go zero {a} {b} ha hb s = let e : a ≡ b = lt-one ha ∙ sym (lt-one hb) in (le_of_eq (ap ones e), λ h. e)
size-go (suc k) {a} {b} ha hb s =
    let ih = size-go k (half_lt k ha) (half_lt k hb) (halve-⊆ s) in
    let l = low-⊆ s in
    let ea = ones_step a in
    let eb = ones_step b in
    let le = ih.0 in
    (omega arith, λ h. let e = ih.1 (omega arith) in omega arith)

pub size-⊆ : {a b : ℕ} → a ⊆ b → ones a ≤ ones b
size-⊆ {a} {b} s = (size-go b (below-⊆ b s (lt-pow b)) (lt-pow b) s).0

pub size-⊂ : {a b : ℕ} → a ⊆ b → (a ≡ b → ⊥) → ones a < ones b
size-⊂ {a} {b} s f =
    let r = size-go b (below-⊆ b s (lt-pow b)) (lt-pow b) s in
    ⊎_elim (λ e. absurd (f (r.1 (le_of_eq (sym e))))) (λ l. l) (eq-or-lt_of_le r.0)
