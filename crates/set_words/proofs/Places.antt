-- Sets in two parts, a * 2 ^ k + i: the sites below k are those of i, the others those of a. And sets that are shifted.
use Prim.Native.Nat.{ℕ, ◌+◌, ◌-◌, ◌*◌, ◌/◌, ◌%◌, ◌^◌, ◌≤◌, ◌<◌}
use mathlib.Core.Bool.{Bool, false, ◌&&◌, and-true}
use mathlib.Core.Logic.{⊎_elim}
use mathlib.Core.Path.{◌≡◌, sym, ap, ◌∙◌, subst}
use native.Mathlib.Omega.{arith}
use lib.Bits.{and_mask}
use lib.Dec.{eqb, ltb}
use lib.Pow.{shl-shr, shr-shr, low, high, pow_pos}
use borrow.Author.Tests.{ltb-true, ltb-false}
use Rattle.ground.proofs.Logic.{cases}
use Rattle.masks.proofs.Laws.AllBelow.{in_all}
use Rattle.masks.proofs.Laws.Members.{has-and, has-zero}
use Rattle.masks.proofs.Laws.Subsets.{mem, ∈-below}
use Rattle.masks.specs.Mask.{has, ◌∈◌, ◌⊆◌}

pub has-mod : (m w k : ℕ) → k < w → has (m % 2 ^ w) k ≡ has m k
has-mod m w k l =
    ap (λ (x : ℕ). has x k) (sym (and_mask m w)) ∙ has-and m (2 ^ w - 1) k ∙ ap (λ (c : Bool). has m k && c) (in_all l).holds ∙ and-true (has m k)

-- a set shifted down by s
pub has-shr : (a s k : ℕ) → has (a / 2 ^ s) k ≡ has a (s + k)
unfolding has
has-shr a s k = ap (λ (x : ℕ). eqb (x % 2) 1) (shr-shr a s k)

-- a set shifted up by s: its site k is at s + k, and nobody is below s

pub has-shifted : (a s k : ℕ) → s + k < 64 → has (a * 2 ^ s % 2 ^ 64) (s + k) ≡ has a k
unfolding has
has-shifted a s k l =
    has-mod (a * 2 ^ s) 64 (s + k) l
    ∙ ap (λ (x : ℕ). eqb (x % 2) 1) (sym (shr-shr (a * 2 ^ s) s k) ∙ ap (λ (x : ℕ). x / 2 ^ k) (shl-shr a s))

pub has-shifted-low : (a s k : ℕ) → k < s → s ≤ 64 → has (a * 2 ^ s % 2 ^ 64) k ≡ false
has-shifted-low a s k l h =
    has-mod (a * 2 ^ s) 64 k (omega arith)
    ∙ sym (has-mod (a * 2 ^ s) s k l)
    ∙ ap (λ (x : ℕ). has x k) (ap (λ (x : ℕ). x % 2 ^ s) (plus_none (a * 2 ^ s)) ∙ low a s (pow_pos s))
    ∙ has-zero k
  where
    plus_none : (x : ℕ) → x ≡ x + 0
    plus_none x = omega arith

-- the two parts

module _ (k a : ℕ) {i : ℕ} (l : i < 2 ^ k) where
  pub low-has : (v : ℕ) → v < k → has (a * 2 ^ k + i) v ≡ has i v
  low-has v h = sym (has-mod (a * 2 ^ k + i) k v h) ∙ ap (λ (x : ℕ). has x v) (low a k l)

  pub high-has : (x : ℕ) → has (a * 2 ^ k + i) (k + x) ≡ has a x
  high-has x = sym (has-shr (a * 2 ^ k + i) k x) ∙ ap (λ (y : ℕ). has y x) (high a k l)

  -- a fact of each site: of those of i, and of those of a
  pub each-site : (P : ℕ → Type 0) → ((v : ℕ) → v < k → P v) → ((x : ℕ) → P (k + x)) → (v : ℕ) → P v
  each-site P f g v = ⊎_elim (λ b. f v (ltb-true v k b)) (λ b. subst P (back (ltb-false v k b)) (g (v - k))) (cases (ltb v k))
    where
      back : k ≤ v → k + (v - k) ≡ v
      back h = omega arith

module _ (k a b : ℕ) {i j : ℕ} (li : i < 2 ^ k) (lj : j < 2 ^ k) where
  pub parts-⊆ : a ⊆ b → i ⊆ j → a * 2 ^ k + i ⊆ b * 2 ^ k + j
  parts-⊆ s t =
      record {
        each =
            each-site k a li (λ v. v ∈ a * 2 ^ k + i → v ∈ b * 2 ^ k + j)
            (λ v l h. mem (low-has k b lj v l ∙ (t.each v (mem (sym (low-has k a li v l) ∙ h.holds))).holds))
            (λ x h. mem (high-has k b lj x ∙ (s.each x (mem (sym (high-has k a li x) ∙ h.holds))).holds));
      }

  pub low-⊆ : a * 2 ^ k + i ⊆ b * 2 ^ k + j → i ⊆ j
  low-⊆ s =
      record { each = λ v h. let l = ∈-below li h in mem (sym (low-has k b lj v l) ∙ (s.each v (mem (low-has k a li v l ∙ h.holds))).holds) }

  pub high-⊆ : a * 2 ^ k + i ⊆ b * 2 ^ k + j → a ⊆ b
  high-⊆ s = record { each = λ x h. mem (sym (high-has k b lj x) ∙ (s.each (k + x) (mem (high-has k a li x ∙ h.holds))).holds) }
