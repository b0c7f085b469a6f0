-- All sites below n, and the complement as `!` gives it.
use Prim.Native.Nat.{ℕ, zero, suc, ◌-◌, ◌/◌, ◌%◌, ◌^◌, ◌<◌}
use mathlib.Core.Bool.{Bool, ◌&&◌, not}
use mathlib.Core.Logic.{⊎_elim}
use mathlib.Core.Path.{◌≡◌, refl, sym, ap, ◌∙◌}
use native.Mathlib.Nat.{sub-zero, not-suc-le-zero, le_of_suc-le-suc, mod-lt, pow-suc}
use native.Mathlib.Omega.{arith}
use lib.Bits.{bit_and}
use lib.Dec.{eqb, ltb}
use lib.Pow.{pow_pos}
use borrow.Author.Tests.{ltb-true, ltb-false}
use Rattle.ground.proofs.Logic.{cases}
use Rattle.masks.specs.Mask.{has, minus, ◌∈◌, ◌⊆◌, all_below}
use Rattle.masks.proofs.Laws.Members.{two_pos, has-and, has-minus, has-zero, has-suc, has_above, half_lt, ext}
use Rattle.masks.proofs.Laws.Subsets.{mem, ∈-below}

-- the complement, as `!` gives it

pub has-not : (k b v : ℕ) → b < 2 ^ k → v < k → has ((2 ^ k - 1) - b) v ≡ not (has b v)
unfolding has
has-not zero b v h l = absurd (not-suc-le-zero l)
has-not (suc k) b zero h l = ap (λ (x : ℕ). eqb x 1) flip ∙ flip-1 (b / 1 % 2) (mod-lt (b / 1) two_pos)
  where
    flip : ((2 ^ suc k - 1) - b) / 1 % 2 ≡ 1 - b / 1 % 2
    flip = let e = pow-suc 2 k in omega arith

    flip-1 : (x : ℕ) → x < 2 → eqb (1 - x) 1 ≡ not (eqb x 1)
    flip-1 zero h = refl
    flip-1 (suc zero) h = refl
    flip-1 (suc (suc x)) h = absurd (not-suc-le-zero (le_of_suc-le-suc (le_of_suc-le-suc h)))
has-not (suc k) b (suc v) h l =
    has-suc ((2 ^ suc k - 1) - b) v ∙ ap (λ (x : ℕ). has x v) half ∙ has-not k (b / 2) v (half_lt k h) (le_of_suc-le-suc l)
    ∙ ap not (sym (has-suc b v))
  where
    half : ((2 ^ suc k - 1) - b) / 2 ≡ (2 ^ k - 1) - b / 2
    half = let e = pow-suc 2 k in omega arith

pub minus-not : (k a b : ℕ) → a < 2 ^ k → b < 2 ^ k → bit_and a ((2 ^ k - 1) - b) ≡ minus a b
minus-not k a b ha hb =
    ext (bit_and a ((2 ^ k - 1) - b)) (minus a b)
    (λ v. ⊎_elim
    (λ l. has-and a ((2 ^ k - 1) - b) v ∙ ap (λ (x : Bool). has a v && x) (has-not k b v hb (ltb-true v k l)) ∙ sym (has-minus a b v))
    (λ l. let z = has_above v ha (ltb-false v k l) in
    has-and a ((2 ^ k - 1) - b) v ∙ ap (λ (x : Bool). x && has ((2 ^ k - 1) - b) v) z ∙ sym (ap (λ (x : Bool). x && not (has b v)) z) ∙ sym (has-minus a b v))
    (cases (ltb v k)))

-- all sites below n

pub in_all : {n v : ℕ} → v < n → v ∈ 2 ^ n - 1
in_all {n} {v} l =
    mem (ap (λ (x : ℕ). has x v) (sym (sub-zero (all_below n))) ∙ has-not n 0 v (pow_pos n) l ∙ ap not (has-zero v))

pub ⊆-all : (n : ℕ) {u : ℕ} → u < 2 ^ n → u ⊆ 2 ^ n - 1
⊆-all n {u} h = record { each = λ v k. in_all (∈-below h k) }
