-- All sites together meet every set that is not refused: a set with its inner sets stands in one piece, and where it ends one set fewer is owed.
use Prim.Native.Nat.{ℕ, zero, suc, ◌+◌, ◌-◌, ◌≤◌, ◌<◌}
use mathlib.Core.Bool.{Bool, true, cond}
use mathlib.Core.List.{List, [], ◌∷◌}
use mathlib.Core.Path.{◌≡◌, refl, sym, ap, ap₂, ◌∙◌, subst}
use native.Mathlib.Nat.{eq-or-lt_of_le}
use native.Mathlib.Numerals.{add-one}
use native.Mathlib.Omega.{arith}
use mathlib.Core.Logic.{⊎_elim}
use lib.Bits.{bit_and}
use lib.Dec.{eqb, leb}
use lib.ListN.{length}
use borrow.Author.Tests.{lt-ltb, le-leb}
use Rattle.masks.proofs.Laws.Subsets.{⊆-antisym, and-⊆-l, ∈-and}
use Rattle.masks.specs.Mask.{size, ◌⊆◌}
use Rattle.threshold_sets.specs.Check.{closed_levels, entered_levels, owed, SoundSets}
use Rattle.threshold_sets.specs.Met.{ThresholdSets, AfterSets, members_at, set_at, root_met}

-- where a set, or some sets, end
record Ends (S : ThresholdSets) (a : AfterSets) (many : ℕ) (from : ℕ) (l : List ℕ) : Type 0 where
  all-met : a.met ≡ many
  later : from ≤ a.next
  inside : a.next ≤ S.count
  owes : owed S a.next ≡ closed_levels l

module _ {n : ℕ} {S : ThresholdSets} (sets : SoundSets n S) (u : ℕ) (present : (i : ℕ) → i < S.count → S.plain i ⊆ u) where
  owed_more : (i : ℕ) {a : ℕ} {l : List ℕ} → owed S i ≡ suc a ∷ l → owed S (i + 1) ≡ closed_levels (S.inner i ∷ a ∷ l)
  unfolding owed
  owed_more i {a = a} {l = l} e =
      ap (owed S) (add-one i) ∙ ap (entered_levels (S.inner i)) e ∙ ap (λ (x : ℕ). closed_levels (S.inner i ∷ x ∷ l)) sub
    where
      sub : suc a - 1 ≡ a
      sub = omega arith

  -- something is owed, so a set is left
  left : (i : ℕ) {a : ℕ} {l : List ℕ} → i ≤ S.count → owed S i ≡ suc a ∷ l → i < S.count
  left i {a = a} {l = l} h e = ⊎_elim (λ q. absurd (bad (sym sets.whole ∙ ap (owed S) (sym q) ∙ e))) (λ m. m) (eq-or-lt_of_le h)
    where
      bad : ◌≡◌ {A = List ℕ} [] (suc a ∷ l) → ⊥
      bad q = let z : ◌≡◌ {A = ℕ} 0 (suc (length l)) = ap length q in omega arith

  level : (i : ℕ) {a : ℕ} {l : List ℕ} → i < S.count → owed S i ≡ suc a ∷ l → length l < 4
  level i {a = a} {l = l} h e = let z = sets.four-levels i h in let q : length (owed S i) ≡ suc (length l) = ap length e in omega arith

  enough : (i : ℕ) (r : ℕ) → i < S.count → r ≡ S.inner i → leb (S.threshold i) (size (bit_and (S.plain i) u) + r) ≡ true
  enough i r h e =
      let z = sets.reachable i h in
      let q : bit_and (S.plain i) u ≡ S.plain i = ⊆-antisym (and-⊆-l (S.plain i) u) (record { each = λ v k. ∈-and k ((present i h).each v k) }) in
      let w : size (bit_and (S.plain i) u) ≡ size (S.plain i) = ap size q in
      le-leb (S.threshold i) (size (bit_and (S.plain i) u) + r) (subst (λ (x : ℕ). S.threshold i ≤ x) (sym (ap₂ ◌+◌ w e)) z)

  abbrev OneSet : ℕ → Type 0
  OneSet f =
      (i a : ℕ) (l : List ℕ) (lv : ℕ) → S.count ≤ i + f → i < S.count → owed S i ≡ suc a ∷ l → lv + suc (length l) ≡ 4 →
      Ends S (set_at S u (suc lv) i) 1 (i + 1) (a ∷ l)

  -- k sets are owed at the innermost level
  some-sets : (f : ℕ) → OneSet f → (k i : ℕ) {l : List ℕ} (lv : ℕ) → S.count ≤ i + f → i ≤ S.count → owed S i ≡ closed_levels (k ∷ l) → lv + length l ≡ 4 →
      Ends S (members_at S u (set_at S u lv) k i) k i l
  unfolding members_at
  some-sets f one zero i lv hf h e q = record { all-met = refl; later = omega arith; inside = h; owes = e }
  some-sets f one (suc k) i {l = l} zero hf h e q = let m = left i h e in let z = level i m e in absurd (omega arith)
  some-sets f one (suc k) i {l = l} (suc lv) hf h e q =
      let m = left i h e in
      let s = one i k l lv hf m e (omega arith) in
      let j = (set_at S u (suc lv) i).next in
      let r = some-sets f one k j {l = l} (suc lv) (omega (arith, s.later)) s.inside s.owes q in
      rw (lt-ltb i S.count m)
      (record {
        all-met = ap₂ ◌+◌ s.all-met r.all-met ∙ one_more k;
        later = omega (arith, s.later, r.later);
        inside = r.inside;
        owes = r.owes;
      })
    where
      one_more : (k : ℕ) → 1 + k ≡ suc k
      one_more k = omega arith

  one_set : (f : ℕ) → OneSet f
  unfolding set_at
  one_set zero i a l lv hf h e q = absurd (omega arith)
  one_set (suc f) i a l lv hf h e q =
      let r = some-sets f (one_set f) (S.inner i) (i + 1) {l = a ∷ l} lv (omega arith) (omega arith) (owed_more i e) q in
      record {
        all-met = ap (λ (x : Bool). cond x 1 0) (enough i (members_at S u (set_at S u lv) (S.inner i) (i + 1)).met h r.all-met);
        later = r.later;
        inside = r.inside;
        owes = r.owes;
      }

  pub all_meet : root_met S u ≡ true
  unfolding root_met owed
  all_meet = ap (λ (x : ℕ). eqb x 1) (one_set S.count 0 0 [] 3 (omega arith) sets.some-set refl refl).all-met
