-- Sets that are the same as far as the count goes are met alike, and are sound alike.
use Prim.Native.Nat.{ℕ, zero, suc, ◌+◌, ◌≤◌, ◌<◌}
use mathlib.Core.Bool.{true, false}
use mathlib.Core.Logic.{⊎_elim}
use mathlib.Core.Path.{◌≡◌, refl, sym, ap, ap₂, ◌∙◌, subst}
use native.Mathlib.Omega.{arith}
use lib.Bits.{bit_and}
use lib.Dec.{eqb, ltb}
use borrow.Author.Tests.{ltb-true}
use Rattle.ground.proofs.Logic.{cases}
use Rattle.masks.specs.Mask.{all_below, ◌⊆◌}
use Rattle.threshold_sets.specs.Check.{entered_levels, owed, SoundSets}
use Rattle.threshold_sets.specs.Met.{ThresholdSets, AfterSets, join, reach, members_at, set_at, root_met}

-- the same sets, as far as the first k go
pub record Agree (k : ℕ) (S T : ThresholdSets) : Type 0 where
  pub count-alike : S.count ≡ T.count
  pub threshold-alike : (i : ℕ) → i < k → S.threshold i ≡ T.threshold i
  pub inner-alike : (i : ℕ) → i < k → S.inner i ≡ T.inner i
  pub plain-alike : (i : ℕ) → i < k → S.plain i ≡ T.plain i

pub agree-sym : {k : ℕ} {S T : ThresholdSets} → Agree k S T → Agree k T S
agree-sym a =
    record {
      count-alike = sym a.count-alike;
      threshold-alike = λ i l. sym (a.threshold-alike i l);
      inner-alike = λ i l. sym (a.inner-alike i l);
      plain-alike = λ i l. sym (a.plain-alike i l);
    }

-- of sets that are alike but for their plain sites, and there in what is present
module _ (S T : ThresholdSets) (u w k : ℕ) (few : S.count ≤ k) (counts : S.count ≡ T.count)
    (thresholds : (i : ℕ) → i < k → S.threshold i ≡ T.threshold i) (inners : (i : ℕ) → i < k → S.inner i ≡ T.inner i)
    (present : (i : ℕ) → i < k → bit_and (S.plain i) u ≡ bit_and (T.plain i) w) where
  members_alike : (s r : ℕ → AfterSets) → ((i : ℕ) → i < k → s i ≡ r i) → (m i : ℕ) → members_at S u s m i ≡ members_at T w r m i
  unfolding members_at
  members_alike s r f zero i = refl
  members_alike s r f (suc m) i =
      ⊎_elim
      (λ e. let l = ltb-true i S.count e in
      let q : ltb i T.count ≡ true = rw (← counts) e in
      let z : s i ≡ r i = f i (omega arith) in
      rw (e, q) (ap₂ join z (members_alike s r f m (s i).next ∙ ap (λ (a : AfterSets). members_at T w r m a.next) z)))
      (λ e. let q : ltb i T.count ≡ false = rw (← counts) e in rw (e, q) refl)
      (cases (ltb i S.count))

  reach-alike : (i : ℕ) {a b : AfterSets} → i < k → a ≡ b → reach S u i a ≡ reach T w i b
  reach-alike i l e = rw (thresholds i l, present i l, e) refl

  set-alike : (l i : ℕ) → i < k → set_at S u l i ≡ set_at T w l i
  unfolding set_at
  set-alike zero i h = refl
  set-alike (suc l) i h =
      reach-alike i h
      (members_alike (set_at S u l) (set_at T w l) (set-alike l) (S.inner i) (i + 1)
      ∙ ap (λ (x : ℕ). members_at T w (set_at T w l) x (i + 1)) (inners i h))

  pub root_alike : 1 ≤ k → root_met S u ≡ root_met T w
  unfolding root_met
  root_alike h = ap (λ (a : AfterSets). eqb a.met 1) (set-alike 4 0 h)

-- the same sets are met by the same sites
pub met-alike : {S T : ThresholdSets} {k : ℕ} → Agree k S T → 1 ≤ k → S.count ≤ k → (u : ℕ) → root_met S u ≡ root_met T u
met-alike {S} {T} {k} a h few u =
    root_alike S T u u k few a.count-alike a.threshold-alike a.inner-alike (λ i l. ap (λ (x : ℕ). bit_and x u) (a.plain-alike i l)) h

-- what is owed before set i depends on the sets before it alone
owed-alike : {S T : ThresholdSets} {k : ℕ} → Agree k S T → (i : ℕ) → i ≤ k → owed S i ≡ owed T i
unfolding owed
owed-alike a zero h = refl
owed-alike a (suc i) h = ap₂ entered_levels (a.inner-alike i h) (owed-alike a i (omega arith))

-- and so whether they are sound
pub sound-alike : {n : ℕ} {S T : ThresholdSets} {k : ℕ} → Agree k S T → S.count ≤ k → SoundSets n S → SoundSets n T
sound-alike {n} {S} {T} {k} a few s =
    let e = a.count-alike in
    let here : (i : ℕ) → i < T.count → i < S.count = λ i l. rw e l in
    record {
      some-set = rw (← e) s.some-set;
      few-sets = rw (← e) s.few-sets;
      below = λ i l. subst (λ (q : ℕ). q ⊆ all_below n) (a.plain-alike i (omega arith)) (s.below i (here i l));
      not-zero = λ i l. subst (λ (x : ℕ). 1 ≤ x) (a.threshold-alike i (omega arith)) (s.not-zero i (here i l));
      reachable = λ i l. rw (← a.threshold-alike i (omega arith), ← a.plain-alike i (omega arith), ← a.inner-alike i (omega arith)) (s.reachable i (here i l));
      in-root = λ i l. rw (← owed-alike a i (omega arith)) (s.in-root i (here i l));
      four-levels = λ i l. rw (← owed-alike a i (omega arith)) (s.four-levels i (here i l));
      whole = ap (owed T) (sym e) ∙ sym (owed-alike a S.count few) ∙ s.whole;
    }
