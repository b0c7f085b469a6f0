-- Brackets and preorder: with the inner sets that were begun so far, the sets are whole; and whatever the open sets still get, is owed at their levels.
use Prim.Native.Nat.{ℕ, zero, suc, ◌+◌, ◌-◌, ◌≤◌, ◌<◌}
use mathlib.Core.Bool.{Bool, true, false, cond}
use mathlib.Core.List.{List, [], ◌∷◌, ◌++◌}
use mathlib.Core.Logic.{⊎_elim}
use mathlib.Core.Path.{◌≡◌, refl, sym, ap, ◌∙◌}
use native.Mathlib.Omega.{arith}
use lib.Dec.{eqb, ltb}
use lib.ListN.{length, length-append}
use borrow.Author.Tests.{eq-eqb, ne_eqb, ltb-true, ltb-false}
use Rattle.ground.proofs.Logic.{cases}
use Rattle.threshold_sets.specs.Check.{closed_levels, entered_levels, owed}
use Rattle.threshold_sets.specs.Met.{ThresholdSets}

-- what is owed knows the numbers of inner sets alone
abbrev pub owes : (ℕ → ℕ) → ℕ → List ℕ
owes k zero = 1 ∷ []
owes k (suc i) = entered_levels (k i) (owes k i)

pub owed-owes : (S : ThresholdSets) (i : ℕ) → owed S i ≡ owes S.inner i
unfolding owed
owed-owes S zero = refl
owed-owes S (suc i) = ap (entered_levels (S.inner i)) (owed-owes S i)

pub owes-alike : (k l : ℕ → ℕ) (i : ℕ) → ((j : ℕ) → j < i → k j ≡ l j) → owes k i ≡ owes l i
owes-alike k l zero f = refl
owes-alike k l (suc i) f =
    ap (entered_levels (k i)) (owes-alike k l i (λ j h. f j (omega arith))) ∙ ap (λ (x : ℕ). entered_levels x (owes l i)) (f i (omega arith))

-- the open sets, the innermost first, with so many inner sets more
abbrev pub plus : List ℕ → List ℕ → (ℕ → ℕ) → ℕ → ℕ
plus [] es k j = k j
plus (p ∷ P) [] k j = k j
plus (p ∷ P) (e ∷ es) k j = cond (eqb j p) e 0 + plus P es k j

plus-alike : (P es : List ℕ) (k l : ℕ → ℕ) (j : ℕ) → k j ≡ l j → plus P es k j ≡ plus P es l j
plus-alike [] es k l j e = e
plus-alike (p ∷ P) [] k l j e = e
plus-alike (p ∷ P) (d ∷ es) k l j e = ap (λ (x : ℕ). cond (eqb j p) d 0 + x) (plus-alike P es k l j e)

plus_one : (P es : List ℕ) (p : ℕ) (k l : ℕ → ℕ) (j : ℕ) → l j ≡ cond (eqb j p) 1 0 + k j → plus P es l j ≡ cond (eqb j p) 1 0 + plus P es k j
plus_one [] es p k l j e = e
plus_one (q ∷ P) [] p k l j e = e
plus_one (q ∷ P) (d ∷ es) p k l j e = let h = plus_one P es p k l j e in omega (arith, h)

together : (b : Bool) (d x : ℕ) → cond b d 0 + (cond b 1 0 + x) ≡ cond b (suc d) 0 + x
together true d x = omega arith
together false d x = omega arith

no_more : (b : Bool) (x : ℕ) → cond b 0 0 + x ≡ x
no_more true x = omega arith
no_more false x = omega arith

-- all of them below N
abbrev pub under : ℕ → List ℕ → Type 0
under N [] = 0 ≤ N
under N (p ∷ P) = (p < N) × under N P

pub under_more : (N : ℕ) (P : List ℕ) → under N P → under (N + 1) P
under_more N [] f = omega arith
under_more N (p ∷ P) f = (omega (arith, f.0), under_more N P f.1)

fresh : (N : ℕ) (P es : List ℕ) (k : ℕ → ℕ) → under N P → plus P es k N ≡ k N
fresh N [] es k f = refl
fresh N (p ∷ P) [] k f = refl
fresh N (p ∷ P) (e ∷ es) k f = rw (ne_eqb N p (λ z. omega (arith, z, f.0))) (let y = fresh N P es k f.1 in omega (arith, y))

-- the first N sets: whatever the open ones get more is owed at their levels, and no set before stands past four levels
abbrev pub Open : List ℕ → (ℕ → ℕ) → ℕ → Type 0
Open P k N = (es : List ℕ) → length es ≡ length P → owes (plus P es k) N ≡ closed_levels (es ++ (0 ∷ []))

abbrev pub Deep : List ℕ → (ℕ → ℕ) → ℕ → Type 0
Deep P k N = (i : ℕ) → i < N → (es : List ℕ) → length es ≡ length P → (1 ≤ length (owes (plus P es k) i)) × (length (owes (plus P es k) i) ≤ 4)

pub open-alike : (P : List ℕ) (k l : ℕ → ℕ) (N : ℕ) → ((j : ℕ) → j < N → k j ≡ l j) → Open P l N → Open P k N
open-alike P k l N f o es h = owes-alike (plus P es k) (plus P es l) N (λ j g. plus-alike P es k l j (f j g)) ∙ o es h

pub deep-alike : (P : List ℕ) (k l : ℕ → ℕ) (N : ℕ) → ((j : ℕ) → j < N → k j ≡ l j) → Deep P l N → Deep P k N
deep-alike P k l N f o i g es h =
    let e : length (owes (plus P es k) i) ≡ length (owes (plus P es l) i) =
    ap length (owes-alike (plus P es k) (plus P es l) i (λ j y. plus-alike P es k l j (f j (omega (arith, y, g))))) in
    let d = o i g es h in
    (omega (arith, e, d.0), omega (arith, e, d.1))

-- the root
pub root-open : (k : ℕ → ℕ) → k 0 ≡ 0 → Open (0 ∷ []) k 1
root-open k z [] h = absurd (omega (arith, h))
root-open k z (e ∷ []) h = let y : e + k 0 ≡ e = omega (arith, z) in ap (λ (x : ℕ). closed_levels (x ∷ 0 ∷ [])) y
root-open k z (e ∷ d ∷ r) h = absurd (omega (arith, h))

pub root-deep : (k : ℕ → ℕ) → Deep (0 ∷ []) k 1
root-deep k zero g es h = (omega arith, omega arith)
root-deep k (suc i) g es h = absurd (omega (arith, g))

-- an inner set of the innermost begins
module _ (p N : ℕ) (P : List ℕ) (k l : ℕ → ℕ) (u : under N (p ∷ P)) (f : (j : ℕ) → j < N → l j ≡ cond (eqb j p) 1 0 + k j) (z : l N ≡ 0) where
  moved : (e d : ℕ) (r : List ℕ) (j : ℕ) → j < N → plus (N ∷ p ∷ P) (e ∷ d ∷ r) l j ≡ plus (p ∷ P) (suc d ∷ r) k j
  moved e d r j h =
      let a : cond (eqb j p) d 0 + plus P r l j ≡ cond (eqb j p) (suc d) 0 + plus P r k j =
      ap (λ (x : ℕ). cond (eqb j p) d 0 + x) (plus_one P r p k l j (f j h)) ∙ together (eqb j p) d (plus P r k j) in
      rw (ne_eqb j N (λ y. omega (arith, y, h))) (omega (arith, a))

  newest : (e d : ℕ) (r : List ℕ) → plus (N ∷ p ∷ P) (e ∷ d ∷ r) l N ≡ e
  newest e d r = rw (eq-eqb N N refl) (let y = fresh N (p ∷ P) (d ∷ r) l u in omega (arith, y, z))

  before : (e d : ℕ) (r : List ℕ) (i : ℕ) → i ≤ N → owes (plus (N ∷ p ∷ P) (e ∷ d ∷ r) l) i ≡ owes (plus (p ∷ P) (suc d ∷ r) k) i
  before e d r i h = owes-alike (plus (N ∷ p ∷ P) (e ∷ d ∷ r) l) (plus (p ∷ P) (suc d ∷ r) k) i (λ j g. moved e d r j (omega (arith, g, h)))

  pub inner-open : Open (p ∷ P) k N → Open (N ∷ p ∷ P) l (suc N)
  inner-open o [] h = absurd (omega (arith, h))
  inner-open o (e ∷ []) h = absurd (omega (arith, h))
  inner-open o (e ∷ d ∷ r) h =
      let y : suc d - 1 ≡ d = omega arith in
      ap (λ (x : ℕ). entered_levels x (owes (plus (N ∷ p ∷ P) (e ∷ d ∷ r) l) N)) (newest e d r)
      ∙ ap (entered_levels e) (before e d r N (omega arith) ∙ o (suc d ∷ r) (omega (arith, h)))
      ∙ ap (λ (x : ℕ). closed_levels (e ∷ x ∷ (r ++ (0 ∷ [])))) y

  pub inner-deep : length P ≤ 2 → Open (p ∷ P) k N → Deep (p ∷ P) k N → Deep (N ∷ p ∷ P) l (suc N)
  inner-deep w o q i g [] h = absurd (omega (arith, h))
  inner-deep w o q i g (e ∷ []) h = absurd (omega (arith, h))
  inner-deep w o q i g (e ∷ d ∷ r) h =
      let b : length (owes (plus (N ∷ p ∷ P) (e ∷ d ∷ r) l) i) ≡ length (owes (plus (p ∷ P) (suc d ∷ r) k) i) = ap length (before e d r i (omega (arith, g))) in
      let m : length (suc d ∷ r) ≡ length (p ∷ P) = omega (arith, h) in
      ⊎_elim
      (λ y. let a = q i (ltb-true i N y) (suc d ∷ r) m in (omega (arith, a.0, b), omega (arith, a.1, b)))
      (λ y. let e₁ : i ≡ N = omega (arith, ltb-false i N y, g) in
      let c : length (owes (plus (p ∷ P) (suc d ∷ r) k) i) ≡ length (suc d ∷ (r ++ (0 ∷ []))) =
      ap (λ (x : ℕ). length (owes (plus (p ∷ P) (suc d ∷ r) k) x)) e₁ ∙ ap length (o (suc d ∷ r) m) in
      let a : length (r ++ (0 ∷ [])) ≡ length r + 1 = length-append r (0 ∷ []) in
      (omega (arith, a, b, c), omega (arith, a, b, c, h, w)))
      (cases (ltb i N))

-- the innermost is complete
module _ (p N : ℕ) (P : List ℕ) (k : ℕ → ℕ) where
  less : (es : List ℕ) (i : ℕ) → owes (plus P es k) i ≡ owes (plus (p ∷ P) (0 ∷ es) k) i
  less es i = owes-alike (plus P es k) (plus (p ∷ P) (0 ∷ es) k) i (λ j g. sym (no_more (eqb j p) (plus P es k j)))

  pub close_open : Open (p ∷ P) k N → Open P k N
  close_open o es h = less es N ∙ o (0 ∷ es) (omega (arith, h))

  pub close_deep : Deep (p ∷ P) k N → Deep P k N
  close_deep q i g es h =
      let e : length (owes (plus P es k) i) ≡ length (owes (plus (p ∷ P) (0 ∷ es) k) i) = ap length (less es i) in
      let a = q i g (0 ∷ es) (omega (arith, h)) in
      (omega (arith, e, a.0), omega (arith, e, a.1))
