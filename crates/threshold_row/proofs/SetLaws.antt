-- Laws of met sets: one for each way out of the two functions.
use Prim.Native.Nat.{ℕ, zero, suc, ◌+◌, ◌≤◌, ◌<◌}
use mathlib.Core.Bool.{Bool, cond}
use mathlib.Core.Path.{◌≡◌, refl, sym, ap, ap₂, ◌∙◌, subst}
use native.Mathlib.Nat.{add-zero}
use lib.Bits.{bit_and}
use lib.Dec.{leb}
use borrow.Author.Tests.{lt-ltb, le-ltb}
use Rattle.masks.specs.Mask.{size}
use Rattle.threshold_row.specs.Inner.Seen.{Tells}
use Rattle.threshold_sets.specs.Met.{ThresholdSets, AfterSets, join, reach, members_at, set_at}

says : {m e : ℕ} {a b : AfterSets} → a ≡ b → Tells m e a → Tells m e b
says {m} {e} q s = subst (Tells m e) q s

module _ (S : ThresholdSets) (u : ℕ) where
  pub past-levels : {l : ℕ} (i : ℕ) → l ≡ 0 → Tells 0 (i + 1) (set_at S u l i)
  unfolding set_at
  past-levels i e = rw e (record { met-so = refl; next-so = refl })

  set_here : (l i : ℕ) {m : ℕ} → m ≡ suc l → reach S u i (members_at S u (set_at S u l) (S.inner i) (i + 1)) ≡ set_at S u m i
  unfolding set_at
  set_here l i e = rw e refl

  module _ (l i : ℕ) {m k r e p t : ℕ} (lv : m ≡ suc l) (ki : k ≡ S.inner i) (below : Tells r e (members_at S u (set_at S u l) k (i + 1)))
      (here : p ≡ size (bit_and (S.plain i) u)) (need : t ≡ S.threshold i) where
    sum : p + r ≡ size (bit_and (S.plain i) u) + (members_at S u (set_at S u l) (S.inner i) (i + 1)).met
    sum = ap₂ ◌+◌ here (below.met-so ∙ ap (λ (x : ℕ). (members_at S u (set_at S u l) x (i + 1)).met) ki)

    behind : e ≡ (members_at S u (set_at S u l) (S.inner i) (i + 1)).next
    behind = below.next-so ∙ ap (λ (x : ℕ). (members_at S u (set_at S u l) x (i + 1)).next) ki

    test : leb t (p + r) ≡ leb (S.threshold i) (size (bit_and (S.plain i) u) + (members_at S u (set_at S u l) (S.inner i) (i + 1)).met)
    test = ap₂ leb need sum

    -- the set, by what is met of its members
    pub set-reached : {x f : ℕ} → x ≡ cond (leb t (p + r)) 1 0 → f ≡ e → Tells x f (set_at S u m i)
    set-reached q g = says (set_here l i lv) (record { met-so = q ∙ ap (λ (x : Bool). cond x 1 0) test; next-so = g ∙ behind })

  module _ (set : ℕ → AfterSets) where
    pub no_member : {k : ℕ} (i : ℕ) → k ≡ 0 → Tells 0 i (members_at S u set k i)
    unfolding members_at
    no_member i e = rw e (record { met-so = refl; next-so = refl })

    pub none_left : (k i : ℕ) → S.count ≤ i → Tells 0 i (members_at S u set k i)
    unfolding members_at
    none_left zero i h = record { met-so = refl; next-so = refl }
    none_left (suc k) i h = rw (le-ltb i S.count h) (record { met-so = refl; next-so = refl })

    member-here : (j i : ℕ) {k : ℕ} → k ≡ suc j → i < S.count → join (set i) (members_at S u set j (set i).next) ≡ members_at S u set k i
    unfolding members_at
    member-here j i e h = rw (e, lt-ltb i S.count h) refl

    -- one member, then the others
    pub member-then : (j i : ℕ) {k m e r f : ℕ} → k ≡ suc j → i < S.count → Tells m e (set i) → Tells r f (members_at S u set j e) →
        Tells (m + r) f (members_at S u set k i)
    member-then j i {e = e} c h one rest =
        says (member-here j i c h)
        (record {
          met-so = ap₂ ◌+◌ one.met-so (rest.met-so ∙ ap (λ (x : ℕ). (members_at S u set j x).met) one.next-so);
          next-so = rest.next-so ∙ ap (λ (x : ℕ). (members_at S u set j x).next) one.next-so;
        })

  -- a set without inner sets
  pub set-leaf : (l i : ℕ) {m p t x f : ℕ} → m ≡ suc l → 0 ≡ S.inner i → p ≡ size (bit_and (S.plain i) u) → t ≡ S.threshold i
      → x ≡ cond (leb t p) 1 0 → f ≡ i + 1 → Tells x f (set_at S u m i)
  set-leaf l i {p = p} {t = t} lv none here need q g =
      set-reached l i lv none (no_member (set_at S u l) (i + 1) refl) here need (q ∙ ap (λ (y : ℕ). cond (leb t y) 1 0) (sym (add-zero p))) g
