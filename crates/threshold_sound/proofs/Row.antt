-- The sets of a line that is read: what holds of them while some are open, through every word.
use Prim.Native.Nat.{ℕ, suc, ◌+◌, ◌≤◌, ◌<◌}
use mathlib.Core.Bool.{Bool, true, false, cond}
use mathlib.Core.List.{List, [], ◌∷◌}
use mathlib.Core.Logic.{⊎_elim}
use mathlib.Core.Path.{◌≡◌, refl, sym, ap, subst, ◌∙◌}
use native.Mathlib.Numerals.{add-one}
use native.Mathlib.Omega.{arith}
use lib.Dec.{eqb}
use lib.ListN.{length}
use borrow.Author.Tests.{eqb-true, eqb-false, ne_eqb}
use Rattle.ground.proofs.Logic.{cases}
use Rattle.masks.proofs.Laws.Subsets.{⊆-zero}
use Rattle.masks.specs.Mask.{all_below, size, ◌⊆◌}
use Rattle.threshold_sets.specs.Check.{SoundSets}
use Rattle.threshold_sets.specs.Met.{ThresholdSets}
use Rattle.threshold_sound.proofs.Nest.{owed-owes, under, under_more, Open, Deep, open-alike, deep-alike, root-open, root-deep, inner-open, inner-deep, close_open, close_deep}

-- a set that is complete, and one that is not there
abbrev pub Reached : ThresholdSets → ℕ → Type 0
Reached S i = (1 ≤ S.threshold i) × (S.threshold i ≤ size (S.plain i) + S.inner i)

abbrev pub Unused : ThresholdSets → ℕ → Type 0
Unused S i = (S.threshold i ≡ 0) × (S.inner i ≡ 0) × (S.plain i ≡ 0)

-- set i is none of the open ones
abbrev pub away : ℕ → List ℕ → Type 0
away i [] = 0 ≤ i
away i (p ∷ P) = (i ≡ p → ⊥) × away i P

-- the sets S so far, of which those at P are open, the innermost first
pub record Row (n : ℕ) (P : List ℕ) (S : ThresholdSets) : Type 0 where
  pub some-set : 1 ≤ S.count
  pub few-sets : S.count ≤ 49
  pub inside : under S.count P
  pub owing : Open P S.inner S.count
  pub deep : Deep P S.inner S.count
  pub kids : (i : ℕ) → i < 49 → S.inner i < S.count
  pub sites : (i : ℕ) → i < 49 → S.plain i ⊆ all_below n
  pub reached : (i : ℕ) → i < S.count → away i P → Reached S i
  pub unused : (i : ℕ) → S.count ≤ i → i < 49 → Unused S i

-- the root begins
pub row-root : (n : ℕ) (T : ThresholdSets) → T.count ≡ 1 → ((i : ℕ) → i < 49 → Unused T i) → Row n (0 ∷ []) T
row-root n T e f = record {
  some-set = omega (arith, e);
  few-sets = omega (arith, e);
  inside = (omega (arith, e), omega arith);
  owing = subst (λ (c : ℕ). Open (0 ∷ []) T.inner c) (sym e) (root-open T.inner (f 0 (omega arith)).1);
  deep = subst (λ (c : ℕ). Deep (0 ∷ []) T.inner c) (sym e) (root-deep T.inner);
  kids = λ i l. omega (arith, e, (f i l).1);
  sites = λ i l. subst (λ (q : ℕ). q ⊆ all_below n) (sym (f i l).2) (⊆-zero (all_below n));
  reached = λ i l a. absurd (a.0 (omega (arith, l, e)));
  unused = λ i g l. f i l;
}

-- an inner set begins
module _ (n p : ℕ) (P : List ℕ) (S T : ThresholdSets) (few : length P ≤ 2) (room : S.count ≤ 48) (e : T.count ≡ S.count + 1)
    (a : (i : ℕ) → i < 49 → T.threshold i ≡ S.threshold i) (b : (i : ℕ) → i < 49 → T.inner i ≡ cond (eqb i p) 1 0 + S.inner i)
    (d : (i : ℕ) → i < 49 → T.plain i ≡ S.plain i) (r : Row n (p ∷ P) S) where
  grown : T.count ≡ suc S.count
  grown = e ∙ add-one S.count

  elsewhere : (i : ℕ) → i < 49 → (i ≡ p → ⊥) → T.inner i ≡ S.inner i
  elsewhere i l f = let y : ◌≡◌ {A = ℕ} (cond (eqb i p) 1 0) 0 = rw (ne_eqb i p f) refl in omega (arith, b i l, y)

  newest : T.inner S.count ≡ 0
  newest = elsewhere S.count (omega (arith, room)) (λ y. omega (arith, y, r.inside.0)) ∙ (r.unused S.count (omega arith) (omega (arith, room))).1

  pub row-inner : Row n (S.count ∷ p ∷ P) T
  row-inner = record {
    some-set = omega (arith, e);
    few-sets = omega (arith, e, room);
    inside = (omega (arith, e), subst (λ (c : ℕ). under c (p ∷ P)) (sym e) (under_more S.count (p ∷ P) r.inside));
    owing = subst (λ (c : ℕ). Open (S.count ∷ p ∷ P) T.inner c) (sym grown)
        (inner-open p S.count P S.inner T.inner r.inside (λ j h. b j (omega (arith, h, room))) newest r.owing);
    deep = subst (λ (c : ℕ). Deep (S.count ∷ p ∷ P) T.inner c) (sym grown)
        (inner-deep p S.count P S.inner T.inner r.inside (λ j h. b j (omega (arith, h, room))) newest few r.owing r.deep);
    kids = λ i l. let y = at_most (eqb i p) in omega (arith, e, b i l, r.kids i l, y);
    sites = λ i l. subst (λ (q : ℕ). q ⊆ all_below n) (sym (d i l)) (r.sites i l);
    reached = λ i l w.
        let h : i < S.count = other i S.count (omega (arith, l, e)) w.0 in
        let m : i < 49 = omega (arith, h, room) in
        let x = r.reached i h w.1 in
        let y = elsewhere i m w.1.0 in
        let z : size (T.plain i) ≡ size (S.plain i) = ap size (d i m) in
        (omega (arith, x.0, a i m), omega (arith, x.1, y, z, a i m));
    unused = λ i g l.
        let x = r.unused i (omega (arith, g, e)) l in
        (a i l ∙ x.0, elsewhere i l (λ y. omega (arith, y, g, e, r.inside.0)) ∙ x.1, d i l ∙ x.2);
  }
    where
      at_most : (x : Bool) → cond x 1 0 ≤ 1
      at_most true = omega arith
      at_most false = omega arith

      other : (i m : ℕ) → i < m + 1 → (i ≡ m → ⊥) → i < m
      other i m h f = ⊎_elim (λ y. absurd (f (eqb-true i m y))) (λ y. let z = eqb-false i m y in omega (arith, z, h)) (cases (eqb i m))

-- the innermost gets its threshold or sites
pub row-changed : (n p : ℕ) (P : List ℕ) (S T : ThresholdSets) → T.count ≡ S.count → ((i : ℕ) → i < 49 → (i ≡ p → ⊥) → T.threshold i ≡ S.threshold i)
    → ((i : ℕ) → i < 49 → T.inner i ≡ S.inner i) → ((i : ℕ) → i < 49 → (i ≡ p → ⊥) → T.plain i ≡ S.plain i)
    → ((i : ℕ) → i < 49 → T.plain i ⊆ all_below n) → Row n (p ∷ P) S → Row n (p ∷ P) T
row-changed n p P S T e a b d s r = record {
  some-set = omega (arith, e, r.some-set);
  few-sets = omega (arith, e, r.few-sets);
  inside = subst (λ (c : ℕ). under c (p ∷ P)) (sym e) r.inside;
  owing = subst (λ (c : ℕ). Open (p ∷ P) T.inner c) (sym e) (open-alike (p ∷ P) T.inner S.inner S.count (λ j h. b j (omega (arith, h, r.few-sets))) r.owing);
  deep = subst (λ (c : ℕ). Deep (p ∷ P) T.inner c) (sym e) (deep-alike (p ∷ P) T.inner S.inner S.count (λ j h. b j (omega (arith, h, r.few-sets))) r.deep);
  kids = λ i l. omega (arith, e, b i l, r.kids i l);
  sites = s;
  reached = λ i l w.
      let m : i < 49 = omega (arith, l, e, r.few-sets) in
      let x = r.reached i (omega (arith, l, e)) w in
      let z : size (T.plain i) ≡ size (S.plain i) = ap size (d i m w.0) in
      (omega (arith, x.0, a i m w.0), omega (arith, x.1, a i m w.0, b i m, z));
  unused = λ i g l.
      let x = r.unused i (omega (arith, g, e)) l in
      let f : i ≡ p → ⊥ = λ y. omega (arith, y, g, e, r.inside.0) in
      (a i l f ∙ x.0, b i l ∙ x.1, d i l f ∙ x.2);
}

-- the innermost is complete
pub row-closed : (n p : ℕ) (P : List ℕ) (S : ThresholdSets) → Reached S p → Row n (p ∷ P) S → Row n P S
row-closed n p P S f r = record {
  some-set = r.some-set;
  few-sets = r.few-sets;
  inside = r.inside.1;
  owing = close_open p S.count P S.inner r.owing;
  deep = close_deep p S.count P S.inner r.deep;
  kids = r.kids;
  sites = r.sites;
  reached = λ i l w. ⊎_elim (λ y. subst (λ (x : ℕ). Reached S x) (sym (eqb-true i p y)) f) (λ y. r.reached i l (eqb-false i p y, w)) (cases (eqb i p));
  unused = r.unused;
}

-- all of them are complete
pub row-sound : (n : ℕ) (S : ThresholdSets) → Row n [] S → SoundSets n S
row-sound n S r = record {
  some-set = r.some-set;
  few-sets = r.few-sets;
  below = λ i l. r.sites i (omega (arith, l, r.few-sets));
  not-zero = λ i l. (r.reached i l (omega arith)).0;
  reachable = λ i l. (r.reached i l (omega arith)).1;
  in-root = λ i l. let y = r.deep i l [] refl in omega (arith, y.0, ap length (owed-owes S i));
  four-levels = λ i l. let y = r.deep i l [] refl in omega (arith, y.1, ap length (owed-owes S i));
  whole = owed-owes S S.count ∙ r.owing [] refl;
}
