-- Laws of the open levels as the check keeps them.
use Prim.Native.Nat.{ℕ, zero, suc, ◌+◌, ◌-◌, ◌≤◌, ◌<◌}
use mathlib.Core.List.{List, [], ◌∷◌}
use mathlib.Core.Path.{◌≡◌, refl, sym, ap, ap₂, ◌∙◌, subst}
use native.Mathlib.Numerals.{add-one}
use native.Mathlib.Omega.{arith}
use lib.ListN.{length, get_or, set, length-set}
use lib.Seq.{get_or-set_same, get_or-set_other}
use Rattle.threshold_sets.specs.Check.{closed_levels, entered_levels, owed}
use Rattle.threshold_sets.specs.Met.{ThresholdSets}
use Rattle.threshold_block.specs.Inner.{opened}

closed-owes : (x : ℕ) (l : List ℕ) → (x ≡ 0 → ⊥) → closed_levels (x ∷ l) ≡ x ∷ l
closed-owes zero l f = absurd (f refl)
closed-owes (suc x) l f = refl

closed_none : (x : ℕ) (l : List ℕ) → x ≡ 0 → closed_levels (x ∷ l) ≡ closed_levels l
closed_none x l e = rw e refl

opened-top : (a : List ℕ) (e : ℕ) {d : ℕ} → d ≡ suc e → opened a d ≡ get_or a e 0 ∷ opened a e
unfolding opened
opened-top a e q = rw q refl

module _ (a : List ℕ) (e : ℕ) {d : ℕ} (q : d ≡ suc e) where
  -- the innermost owes a set: nothing closes
  pub open_stays : (get_or a e 0 ≡ 0 → ⊥) → opened a d ≡ closed_levels (opened a d)
  open_stays f = opened-top a e q ∙ sym (closed-owes (get_or a e 0) (opened a e) f) ∙ ap closed_levels (sym (opened-top a e q))

  -- it owes none: it is closed
  pub open-closes : get_or a e 0 ≡ 0 → closed_levels (opened a e) ≡ closed_levels (opened a d)
  open-closes z = sym (closed_none (get_or a e 0) (opened a e) z) ∙ ap closed_levels (sym (opened-top a e q))

pub open_none : (a : List ℕ) {d : ℕ} → d ≡ 0 → opened a 0 ≡ closed_levels (opened a d)
unfolding opened
open_none a q = rw q refl

-- what is written at or behind the d-th does not show in the first d
opened-set : (a : List ℕ) (d i x : ℕ) → d ≤ i → opened (set a i x) d ≡ opened a d
unfolding opened
opened-set a zero i x h = refl
opened-set a (suc d) i x h = ap₂ ◌∷◌ (get_or-set_other a i d x 0 (λ q. omega arith)) (opened-set a d i x (omega arith))

-- one fewer is owed at the innermost level, and k within it
pub open-enter : (a : List ℕ) (e k : ℕ) {d x : ℕ} → d ≡ suc e → suc e < length a → x ≡ get_or a e 0 - 1 →
    closed_levels (opened (set (set a e x) d k) (d + 1)) ≡ entered_levels k (opened a d)
open-enter a e k {d = d} {x = x} q h z =
    ap closed_levels
    (opened-top (set (set a e x) d k) d (omega arith)
    ∙ ap₂ ◌∷◌ (get_or-set_same (set a e x) d k 0 (subst (λ (n : ℕ). d < n) (sym (length-set a e x)) (omega arith)))
    (opened-set (set a e x) d d k (omega arith) ∙ opened-top (set a e x) e q
    ∙ ap₂ ◌∷◌ (get_or-set_same a e x 0 (omega arith) ∙ z) (opened-set a e e x (omega arith))))
    ∙ ap (entered_levels k) (sym (opened-top a e q))

length-opened : (a : List ℕ) (d : ℕ) → length (opened a d) ≡ d
unfolding opened
length-opened a zero = refl
length-opened a (suc d) = ap suc (length-opened a d)

-- the innermost level that is not closed owes a set
closed_some : (l : List ℕ) {x : ℕ} {m : List ℕ} → closed_levels l ≡ x ∷ m → 1 ≤ x
closed_some [] e = let z : ◌≡◌ {A = ℕ} 0 (suc _) = ap length e in absurd (omega arith)
closed_some (zero ∷ l) e = closed_some l e
closed_some (suc k ∷ l) e = let z : suc k ≡ _ = ap (λ (y : List ℕ). get_or y 0 0) e in omega arith

owed-some : (S : ThresholdSets) (i : ℕ) {x : ℕ} {m : List ℕ} → owed S i ≡ x ∷ m → 1 ≤ x
unfolding owed
owed-some S zero e = let z : ◌≡◌ {A = ℕ} 1 _ = ap (λ (y : List ℕ). get_or y 0 0) e in omega arith
owed-some S (suc i) e = entered-some (S.inner i) (owed S i) e
  where
    entered-some : (k : ℕ) (l : List ℕ) {x : ℕ} {m : List ℕ} → entered_levels k l ≡ x ∷ m → 1 ≤ x
    entered-some k [] e = let z : ◌≡◌ {A = ℕ} 0 (suc _) = ap length e in absurd (omega arith)
    entered-some k (owe ∷ l) e = closed_some (k ∷ (owe - 1) ∷ l) e

pub innermost-owes : (S : ThresholdSets) (i : ℕ) (a : List ℕ) (d : ℕ) → opened a d ≡ owed S i → 1 ≤ d → 1 ≤ get_or a (d - 1) 0
innermost-owes S i a d e h = owed-some S i (sym e ∙ opened-top a (d - 1) (omega arith))

-- the levels that are kept before set i: as many as are owed
pub kept-depth : (S : ThresholdSets) (i : ℕ) (a : List ℕ) (d : ℕ) → opened a d ≡ owed S i → d ≡ length (owed S i)
kept-depth S i a d e = sym (length-opened a d) ∙ ap length e

pub kept-first : (S : ThresholdSets) (a : List ℕ) → get_or a 0 0 ≡ 1 → opened a 1 ≡ owed S 0
unfolding opened owed
kept-first S a e = rw e refl

pub kept_next : (S : ThresholdSets) (i : ℕ) (a c : List ℕ) (d r : ℕ) → opened c r ≡ entered_levels (S.inner i) (opened a d) → opened a d ≡ owed S i → opened c r ≡ owed S (i + 1)
unfolding owed
kept_next S i a c d r e k = e ∙ ap (entered_levels (S.inner i)) k ∙ ap (owed S) (sym (add-one i))
