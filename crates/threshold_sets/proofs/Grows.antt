-- More sites meet no fewer sets.
use Prim.Native.Nat.{ℕ, zero, suc, ◌+◌, ◌≤◌}
use mathlib.Core.Bool.{Bool, true, false, cond}
use mathlib.Core.Logic.{⊎_elim}
use mathlib.Core.Path.{◌≡◌, refl, ap, ◌∙◌, subst}
use native.Mathlib.Nat.{le_refl, add-le-add}
use native.Mathlib.Omega.{arith}
use lib.Bits.{bit_and}
use lib.Dec.{leb, ltb}
use borrow.Author.Tests.{le-leb, leb-true, eqb-true, eq-eqb}
use Rattle.ground.proofs.Logic.{cases}
use Rattle.masks.proofs.Laws.Size.{size-⊆}
use Rattle.masks.proofs.Laws.Subsets.{and-⊆-l, and-⊆-r, ∈-and}
use Rattle.masks.specs.Mask.{size, ◌⊆◌}
use Rattle.threshold_sets.specs.Met.{ThresholdSets, AfterSets, members_at, set_at, root_met}

-- no fewer are met, and they end at the same place
record More (a c : AfterSets) : Type 0 where
  met-more : a.met ≤ c.met
  same_end : a.next ≡ c.next

module _ (S : ThresholdSets) {u w : ℕ} (sub : u ⊆ w) where
  present-more : (q : ℕ) → size (bit_and q u) ≤ size (bit_and q w)
  present-more q = size-⊆ (record { each = λ v h. ∈-and ((and-⊆-l q u).each v h) (sub.each v ((and-⊆-r q u).each v h)) })

  reach-more : (t x y : ℕ) → x ≤ y → cond (leb t x) 1 0 ≤ cond (leb t y) 1 0
  reach-more t x y h =
      ⊎_elim (λ e. let z = leb-true t x e in rw (e, le-leb t y (omega arith)) (le_refl 1)) (λ e. rw e (omega arith)) (cases (leb t x))

  members-more : (s r : ℕ → AfterSets) → ((i : ℕ) → More (s i) (r i)) → (k i : ℕ) → More (members_at S u s k i) (members_at S w r k i)
  unfolding members_at
  members-more s r f zero i = record { met-more = omega arith; same_end = refl }
  members-more s r f (suc k) i =
      ⊎_elim
      (λ e. let m = f i in
      let x = members-more s r f k (s i).next in
      let y : members_at S w r k (s i).next ≡ members_at S w r k (r i).next = ap (members_at S w r k) m.same_end in
      rw e
      (record {
        met-more = add-le-add m.met-more (subst (λ (a : AfterSets). (members_at S u s k (s i).next).met ≤ a.met) y x.met-more);
        same_end = x.same_end ∙ ap (λ (a : AfterSets). a.next) y;
      }))
      (λ e. rw e (record { met-more = le_refl 0; same_end = refl }))
      (cases (ltb i S.count))

  set_more : (l i : ℕ) → More (set_at S u l i) (set_at S w l i)
  unfolding set_at
  set_more zero i = record { met-more = omega arith; same_end = refl }
  set_more (suc l) i =
      let m = members-more (set_at S u l) (set_at S w l) (set_more l) (S.inner i) (i + 1) in
      record { met-more = reach-more (S.threshold i) _ _ (add-le-add (present-more (S.plain i)) m.met-more); same_end = m.same_end }

  one_at_most : (l i : ℕ) → (set_at S w l i).met ≤ 1
  unfolding set_at
  one_at_most zero i = omega arith
  one_at_most (suc l) i = cond-le (leb (S.threshold i) (size (bit_and (S.plain i) w) + (members_at S w (set_at S w l) (S.inner i) (i + 1)).met))
    where
      cond-le : (x : Bool) → cond x 1 0 ≤ 1
      cond-le true = le_refl 1
      cond-le false = omega arith

  -- who meets the root with u meets it with w
  pub met-grows : root_met S u ≡ true → root_met S w ≡ true
  unfolding root_met
  met-grows e =
      let z = eqb-true (set_at S u 4 0).met 1 e in
      let m = (set_more 4 0).met-more in
      let o = one_at_most 4 0 in
      eq-eqb (set_at S w 4 0).met 1 (omega arith)
