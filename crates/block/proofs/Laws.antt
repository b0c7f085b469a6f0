-- Laws of the block's check.
use Rattle.std.proofs.Common.{◌≡◌, ℕ, zero, suc, ◌+◌, ◌*◌, ◌%◌, ◌^◌, ◌<◌, ◌≤◌, Bool, true, false, eqb, List, ◌++◌, length, refl, ◌∙◌, subst, mod-lt, add-one, arith, eq-eqb, ne_eqb, eqb-true}
use native.Mathlib.Nat.{mod-add-mod, add-mod-mod}
use Rattle.block.specs.Block.{word, sum_s, sum_t, check_s, check_t, check, sealed}
use Rattle.ground.proofs.Logic.{and_l, and_r, and_i, is_false}
use Rattle.le.proofs.Laws.{field-front}
use Rattle.le.specs.Le.{field}

-- a wrapping turn: the sums modulo 2^32 after k words give those after k + 1
pub turn-s : (b : List ℕ) (k s w : ℕ) → s ≡ sum_s b k % 2 ^ 32 → w ≡ field 4 b (4 * k) → (s + w) % 2 ^ 32 ≡ sum_s b (k + 1) % 2 ^ 32
unfolding sum_s word
turn-s b k s w es ew = rw (add-one k, es, ew) (mod-add-mod (sum_s b k) (2 ^ 32) (field 4 b (4 * k)))

pub turn-t : (b : List ℕ) (k s t : ℕ) → t ≡ sum_t b k % 2 ^ 32 → s ≡ sum_s b (k + 1) % 2 ^ 32 → (t + s) % 2 ^ 32 ≡ sum_t b (k + 1) % 2 ^ 32
unfolding sum_t
turn-t b k s t et es =
    rw (et, es, add-one k)
    (mod-add-mod (sum_t b k) (2 ^ 32) (sum_s b (suc k) % 2 ^ 32) ∙ add-mod-mod (sum_t b k) (sum_s b (suc k)) (2 ^ 32))

-- the sums after i words are those after j, if these are as many
pub as-many-s : (b : List ℕ) (x : ℕ) {i j : ℕ} → i ≡ j → x ≡ sum_s b i % 2 ^ 32 → x ≡ sum_s b j % 2 ^ 32
as-many-s b x e h = subst (λ (y : ℕ). x ≡ sum_s b y % 2 ^ 32) e h

pub as-many-t : (b : List ℕ) (x : ℕ) {i j : ℕ} → i ≡ j → x ≡ sum_t b i % 2 ^ 32 → x ≡ sum_t b j % 2 ^ 32
as-many-t b x e h = subst (λ (y : ℕ). x ≡ sum_t b y % 2 ^ 32) e h

-- the answer, by the tests in order
pub says-size : (b : List ℕ) → (length b ≡ 512 → ⊥) → check b ≡ 1
unfolding check
says-size b h = rw (ne_eqb (length b) 512 h) refl

pub says-s : (b : List ℕ) → length b ≡ 512 → (field 4 b 504 ≡ check_s b → ⊥) → check b ≡ 2
unfolding check sealed
says-s b h n = rw (eq-eqb (length b) 512 h, ne_eqb (field 4 b 504) (check_s b) n) refl

pub says-t : (b : List ℕ) → length b ≡ 512 → field 4 b 504 ≡ check_s b → (field 4 b 508 ≡ check_t b → ⊥) → check b ≡ 2
unfolding check sealed
says-t b h e n = rw (eq-eqb (length b) 512 h, eq-eqb (field 4 b 504) (check_s b) e, ne_eqb (field 4 b 508) (check_t b) n) refl

pub says-0 : (b : List ℕ) → length b ≡ 512 → field 4 b 504 ≡ check_s b → field 4 b 508 ≡ check_t b → check b ≡ 0
unfolding check sealed
says-0 b h e n = rw (eq-eqb (length b) 512 h, eq-eqb (field 4 b 504) (check_s b) e, eq-eqb (field 4 b 508) (check_t b) n) refl

-- the sums look at the words alone
pub sum_s-front : (b q : List ℕ) (k : ℕ) → 4 * k ≤ length b → sum_s (b ++ q) k ≡ sum_s b k
unfolding sum_s word
sum_s-front b q zero h = refl
sum_s-front b q (suc k) h =
    let h' : 4 * k + 4 ≤ length b = omega arith in
    rw (sum_s-front b q k (omega arith), field-front 4 b q (4 * k) h') refl

pub sum_t-front : (b q : List ℕ) (k : ℕ) → 4 * k ≤ length b → sum_t (b ++ q) k ≡ sum_t b k
unfolding sum_t
sum_t-front b q zero h = refl
sum_t-front b q (suc k) h = rw (sum_t-front b q k (omega arith), sum_s-front b q (suc k) h) refl

pub check_s-front : (b q : List ℕ) → 504 ≤ length b → check_s (b ++ q) ≡ check_s b
unfolding check_s
check_s-front b q h = rw (sum_s-front b q 126 h) refl

pub check_t-front : (b q : List ℕ) → 504 ≤ length b → check_t (b ++ q) ≡ check_t b
unfolding check_t
check_t-front b q h = rw (sum_t-front b q 126 h) refl

pub check_s-lt : (b : List ℕ) → check_s b < 2 ^ 32
unfolding check_s
check_s-lt b = mod-lt (sum_s b 126) (omega arith)

pub check_t-lt : (b : List ℕ) → check_t b < 2 ^ 32
unfolding check_t
check_t-lt b = mod-lt (sum_t b 126) (omega arith)

-- a block that passes
pub says-0-inv : (b : List ℕ) → check b ≡ 0 → (length b ≡ 512) × (field 4 b 504 ≡ check_s b) × (field 4 b 508 ≡ check_t b)
unfolding check sealed
says-0-inv b h = go (eqb (length b) 512) (eqb (field 4 b 504) (check_s b)) (eqb (field 4 b 508) (check_t b)) refl refl refl
  where
    go : (p q r : Bool) → eqb (length b) 512 ≡ p → eqb (field 4 b 504) (check_s b) ≡ q → eqb (field 4 b 508) (check_t b) ≡ r
        → (length b ≡ 512) × (field 4 b 504 ≡ check_s b) × (field 4 b 508 ≡ check_t b)
    go true true true e f g = (eqb-true _ _ e, eqb-true _ _ f, eqb-true _ _ g)
    go true true false e f g = let z : ◌≡◌ {A = ℕ} 2 0 = rw (e, f, g) at h in absurd (omega arith)
    go true false r e f g = let z : ◌≡◌ {A = ℕ} 2 0 = rw (e, f) at h in absurd (omega arith)
    go false q r e f g = let z : ◌≡◌ {A = ℕ} 1 0 = rw e at h in absurd (omega arith)

-- a sealed block holds its two sums
pub sealed-sums : (b : List ℕ) → sealed b ≡ true → (field 4 b 504 ≡ check_s b) × (field 4 b 508 ≡ check_t b)
unfolding sealed
sealed-sums b h =
    let s = eqb (field 4 b 504) (check_s b) in
    let t = eqb (field 4 b 508) (check_t b) in
    (eqb-true _ _ (and_l s t h), eqb-true _ _ (and_r s t h))

pub sums-sealed : (b : List ℕ) → field 4 b 504 ≡ check_s b → field 4 b 508 ≡ check_t b → sealed b ≡ true
unfolding sealed
sums-sealed b p q = and_i (eq-eqb (field 4 b 504) (check_s b) p) (eq-eqb (field 4 b 508) (check_t b) q)

-- a block of 512 bytes is sealed exactly if the answer is 0
pub says-sealed : (b : List ℕ) → check b ≡ 0 → sealed b ≡ true
says-sealed b h = let q = says-0-inv b h in sums-sealed b q.1 q.2

pub says-unsealed : (b : List ℕ) → length b ≡ 512 → (check b ≡ 0 → ⊥) → sealed b ≡ false
unfolding check
says-unsealed b h n = is_false (sealed b) (λ e. n (rw (eq-eqb (length b) 512 h, e) refl))
