-- What holds of the lines so far, through every word: those that are complete are sound, those that are not begun are zero.
use Prim.Native.Nat.{ℕ, ◌+◌, ◌-◌, ◌*◌, ◌≤◌, ◌<◌}
use mathlib.Core.Bool.{false, cond}
use mathlib.Core.List.{List, [], ◌∷◌}
use mathlib.Core.Logic.{⊎_elim}
use mathlib.Core.Path.{◌≡◌, refl, sym, subst, ◌∙◌}
use native.Mathlib.Omega.{arith}
use lib.Bits.{bit_or}
use lib.Dec.{eqb, ltb}
use lib.ListN.{length, get_or, set, length-set}
use lib.Seq.{get_or-set_same, get_or-set_other}
use borrow.Author.Tests.{eqb-true, eqb-false, ltb-true, ltb-false, eq-eqb, ne_eqb}
use Rattle.ground.proofs.Logic.{cases, or-none}
use Rattle.masks.proofs.Laws.AllBelow.{in_all}
use Rattle.masks.proofs.Laws.Single.{single-⊆}
use Rattle.masks.proofs.Laws.Subsets.{or-⊆}
use Rattle.masks.specs.Mask.{single, size, all_below, ◌⊆◌}
use Rattle.threshold_sets.proofs.Alike.{Agree, sound-alike}
use Rattle.threshold_sets.specs.Check.{SoundSets}
use Rattle.threshold_sets.specs.Met.{ThresholdSets}
use Rattle.threshold_grammar.specs.Grammar.{ThresholdSane, doing, spot_at, threshold_own, threshold_missed}
use Rattle.threshold_grammar.specs.declared.Deed.TheVariants.{Root, Inner, Least, Site}
use Rattle.threshold_grammar.specs.declared.Phase.{Phase}
use Rattle.threshold_grammar.specs.declared.Phase.TheVariants.{Head, Count, Tail, Owner, Mark, Threshold, Of, Members, Wrong}
use Rattle.threshold_grammar.specs.declared.Spot.{Spot}
use Rattle.threshold_nesting.proofs.Ways.{inward, backward}
use Rattle.threshold_nesting.specs.Nesting.{unreached}
use Rattle.threshold_nesting.specs.declared.Held.{Held}
use Rattle.threshold_reading.specs.Lines.{count_at, threshold_at, inner_at, plain_at, sets_heard, held, enacted}
use Rattle.threshold_sound.proofs.Row.{Reached, Unused, Row, row-root, row-inner, row-changed, row-closed, row-sound}

-- the open sets of a line, the root at place 0
pub data Nest : Type 0 where
  one : Nest
  two : ℕ → Nest
  three : ℕ → ℕ → Nest
  four : ℕ → ℕ → ℕ → Nest

abbrev pub inmost : Nest → ℕ
inmost one = 0
inmost (two a) = a
inmost (three a b) = a
inmost (four a b c) = a

-- those around the innermost
abbrev pub outer : Nest → List ℕ
outer one = []
outer (two a) = 0 ∷ []
outer (three a b) = b ∷ 0 ∷ []
outer (four a b c) = b ∷ c ∷ 0 ∷ []

-- a spot says which are open
abbrev pub Says : Nest → Spot → Type 0
Says one s = (s.depth ≡ 1) × (s.set ≡ 0) × (s.around ≡ 0) × (s.beyond ≡ 0)
Says (two a) s = (s.depth ≡ 2) × (s.set ≡ a) × (s.around ≡ 0) × (s.beyond ≡ 0)
Says (three a b) s = (s.depth ≡ 3) × (s.set ≡ a) × (s.around ≡ b) × (s.beyond ≡ 0)
Says (four a b c) s = (s.depth ≡ 4) × (s.set ≡ a) × (s.around ≡ b) × (s.beyond ≡ c)

says-set : (E : Nest) (s : Spot) → Says E s → s.set ≡ inmost E
says-set one s f = f.1
says-set (two a) s f = f.1
says-set (three a b) s f = f.1
says-set (four a b c) s f = f.1

-- lines that are complete, and lines that are not begun
abbrev pub Full : ℕ → ThresholdSets → Type 0
Full n S = SoundSets n S × ((i : ℕ) → S.count ≤ i → i < 49 → Unused S i) × ((i : ℕ) → i < 49 → S.inner i < S.count)

abbrev pub Blank : ThresholdSets → Type 0
Blank S = (S.count ≡ 0) × ((i : ℕ) → i < 49 → Unused S i)

abbrev pub Done : ℕ → ℕ → List ℕ → Type 0
Done n k t = (u : ℕ) → u < k → Full n (sets_heard t u)

abbrev pub Left : ℕ → List ℕ → Type 0
Left k t = (u : ℕ) → k ≤ u → u < 64 → Blank (sets_heard t u)

-- the line that is read has sets, of which some are open
abbrev pub Begun : Spot → List ℕ → Type 0
Begun s t = (1 ≤ s.v) × Done s.n (threshold_own s.v) t × Left s.v t × (E : Nest) × Says E s × Row s.n (inmost E ∷ outer E) (sets_heard t (threshold_own s.v))

-- what holds where something is expected
abbrev pub Good : Phase → Spot → List ℕ → Type 0
Good Head s t = Left 0 t
Good Count s t = Left 0 t
Good Tail s t = (1 ≤ s.n) × Done s.n s.v t × Left s.v t
Good Owner s t = (1 ≤ s.n) × Done s.n s.v t × Left s.v t
Good Mark s t = (1 ≤ s.v) × Done s.n (threshold_own s.v) t × Left (threshold_own s.v) t × Says one s
Good Threshold s t = Begun s t
Good Of s t = Begun s t
Good Members s t = Begun s t
Good (Wrong w) s t = 0 ≤ s.n

abbrev pub Better : Spot → List ℕ → Type 0
Better r t = Good r.phase r (enacted r.deed r t)

-- cells of different sites stand apart
apart : (u w a b : ℕ) → a < 148 → b < 148 → (u ≡ w → ⊥) → 148 * u + a ≡ 148 * w + b → ⊥
apart u w a b l m f e =
    ⊎_elim (λ y. f (eqb-true u w y))
    (λ y. ⊎_elim (λ z. let h = ltb-true u w z in omega (arith, l, m, e, h)) (λ z. let h = ltb-false u w z in let g = eqb-false u w y in above h g) (cases (ltb u w)))
    (cases (eqb u w))
  where
    above : w ≤ u → (u ≡ w → ⊥) → ⊥
    above h g = let k : w + 1 ≤ u = omega (arith, h, g) in omega (arith, k, l, m, e)

-- a cell of site w is put: those of every other site stay
module _ (t : List ℕ) (w a x : ℕ) (l : a < 148) where
  stay : (u b : ℕ) → (u ≡ w → ⊥) → b < 148 → get_or (set t (148 * w + a) x) (148 * u + b) 0 ≡ get_or t (148 * u + b) 0
  stay u b f m = get_or-set_other t (148 * w + a) (148 * u + b) x 0 (apart u w b a m l f)

  stay-count : (u : ℕ) → (u ≡ w → ⊥) → get_or (set t (148 * w + a) x) (148 * u) 0 ≡ get_or t (148 * u) 0
  stay-count u f = get_or-set_other t (148 * w + a) (148 * u) x 0 (λ e. apart u w 0 a (omega arith) l f (omega (arith, e)))

  same-sets : (u : ℕ) → (u ≡ w → ⊥) → Agree 49 (sets_heard t u) (sets_heard (set t (148 * w + a) x) u)
  same-sets u f = record {
    count-alike = sym (stay-count u f);
    threshold-alike = λ i h. sym (stay u (1 + 3 * i) f (omega (arith, h)));
    inner-alike = λ i h. sym (stay u (2 + 3 * i) f (omega (arith, h)));
    plain-alike = λ i h. sym (stay u (3 + 3 * i) f (omega (arith, h)));
  }

full-alike : (n : ℕ) (S T : ThresholdSets) → Agree 49 S T → Full n S → Full n T
full-alike n S T a f = (
  sound-alike a f.0.few-sets f.0,
  (λ i g l. let x = f.1 i (omega (arith, g, a.count-alike)) l in
      (sym (a.threshold-alike i l) ∙ x.0, sym (a.inner-alike i l) ∙ x.1, sym (a.plain-alike i l) ∙ x.2)),
  (λ i l. omega (arith, f.2 i l, a.inner-alike i l, a.count-alike)),
)

blank-alike : (S T : ThresholdSets) → Agree 49 S T → Blank S → Blank T
blank-alike S T a f = (
  sym a.count-alike ∙ f.0,
  (λ i l. let x = f.1 i l in (sym (a.threshold-alike i l) ∙ x.0, sym (a.inner-alike i l) ∙ x.1, sym (a.plain-alike i l) ∙ x.2)),
)

-- lines before and behind the one that is read
module _ (n w : ℕ) (t T : List ℕ) (f : (u : ℕ) → (u ≡ w → ⊥) → Agree 49 (sets_heard t u) (sets_heard T u)) where
  done_on : Done n w t → Done n w T
  done_on d u h = full-alike n (sets_heard t u) (sets_heard T u) (f u (λ e. omega (arith, e, h))) (d u h)

  left-on : (k : ℕ) → w < k → Left k t → Left k T
  left-on k h d u g m = blank-alike (sets_heard t u) (sets_heard T u) (f u (λ e. omega (arith, e, g, h))) (d u g m)

-- cells of different kinds stand apart
third : (i j a b : ℕ) → a < 3 → b < 3 → (a ≡ b → ⊥) → a + 3 * i ≡ b + 3 * j → ⊥
third i j a b l m f e =
    ⊎_elim (λ y. let h = ltb-true i j y in omega (arith, l, m, e, h))
    (λ y. ⊎_elim (λ z. let h = ltb-true j i z in omega (arith, l, m, e, h))
    (λ z. let h = ltb-false i j y in let g = ltb-false j i z in let k : i ≡ j = omega (arith, h, g) in f (omega (arith, k, e))) (cases (ltb j i))) (cases (ltb i j))

twelve : (w i j : ℕ) → 148 * w + (1 + 3 * i) ≡ 148 * w + (2 + 3 * j) → ⊥
twelve w i j e = third i j 1 2 (omega arith) (omega arith) (λ y. omega (arith, y)) (omega (arith, e))

thirteen : (w i j : ℕ) → 148 * w + (1 + 3 * i) ≡ 148 * w + (3 + 3 * j) → ⊥
thirteen w i j e = third i (1 + j) 1 0 (omega arith) (omega arith) (λ y. omega (arith, y)) (omega (arith, e))

twentythree : (w i j : ℕ) → 148 * w + (2 + 3 * i) ≡ 148 * w + (3 + 3 * j) → ⊥
twentythree w i j e = third i (1 + j) 2 0 (omega arith) (omega arith) (λ y. omega (arith, y)) (omega (arith, e))

counted : (t : List ℕ) (w x u : ℕ) → (u ≡ w → ⊥) → Agree 49 (sets_heard t u) (sets_heard (set t (148 * w) x) u)
counted t w x u f =
    let e : 148 * w + 0 ≡ 148 * w = omega arith in
    subst (λ (k : ℕ). Agree 49 (sets_heard t u) (sets_heard (set t k x) u)) e (same-sets t w 0 x (omega arith) u f)

agree_on : {S T R : ThresholdSets} → Agree 49 S T → Agree 49 T R → Agree 49 S R
agree_on a b = record {
  count-alike = a.count-alike ∙ b.count-alike;
  threshold-alike = λ i l. a.threshold-alike i l ∙ b.threshold-alike i l;
  inner-alike = λ i l. a.inner-alike i l ∙ b.inner-alike i l;
  plain-alike = λ i l. a.plain-alike i l ∙ b.plain-alike i l;
}

same_or : (P : ℕ → Type 0) (i j : ℕ) → P j → ((i ≡ j → ⊥) → P i) → P i
same_or P i j a f = ⊎_elim (λ y. subst P (sym (eqb-true i j y)) a) (λ y. f (eqb-false i j y)) (cases (eqb i j))

-- a set more is open, one fewer, only the root
grow : (E : Nest) (s : Spot) (h : Held) → Says E s → s.depth ≤ 3
    → (F : Nest) × Says F (inward s h) × (inmost F ∷ outer F ≡ h.sets ∷ inmost E ∷ outer E) × (length (outer E) ≤ 2)
grow one s h f l = (two h.sets, (omega (arith, f.0), refl, f.1, f.2), refl, omega arith)
grow (two a) s h f l = (three h.sets a, (omega (arith, f.0), refl, f.1, f.2), refl, omega arith)
grow (three a b) s h f l = (four h.sets a b, (omega (arith, f.0), refl, f.1, f.2), refl, omega arith)
grow (four a b c) s h f l = absurd (omega (arith, f.0, l))

shrink : (E : Nest) (s : Spot) → Says E s → 1 < s.depth → (F : Nest) × Says F (backward s) × (inmost F ∷ outer F ≡ outer E)
shrink one s f l = absurd (omega (arith, f.0, l))
shrink (two a) s f l = (one, (omega (arith, f.0), f.2, f.3, refl), refl)
shrink (three a b) s f l = (two b, (omega (arith, f.0), f.2, f.3, refl), refl)
shrink (four a b c) s f l = (three b c, (omega (arith, f.0), f.2, f.3, refl), refl)

sole : (E : Nest) (s : Spot) → Says E s → s.depth ≤ 1 → outer E ≡ []
sole one s f l = refl
sole (two a) s f l = absurd (omega (arith, f.0, l))
sole (three a b) s f l = absurd (omega (arith, f.0, l))
sole (four a b c) s f l = absurd (omega (arith, f.0, l))

-- the ways of a word
module _ (s : Spot) (t : List ℕ) (sane : ThresholdSane s) (long : length t ≡ 9472) where
  own_below : threshold_own s.v < 64
  own_below = omega (arith, sane.0, sane.1)

  pub missed-good : Better (threshold_missed s) t
  unfolding threshold_missed
  missed-good = omega arith

  pub rooted : Good Mark s t → Begun (doing s Root Threshold) (enacted Root s t)
  rooted f =
      let w = threshold_own s.v in
      let T = set t (count_at w) 1 in
      let z = (f.2 w (omega arith) own_below).1 in
      let c : get_or T (count_at w) 0 ≡ 1 = get_or-set_same t (count_at w) 1 0 (omega (arith, long, own_below)) in
      let far : (b : ℕ) → 1 ≤ b → get_or T (148 * w + b) 0 ≡ get_or t (148 * w + b) 0 = λ b h. get_or-set_other t (count_at w) (148 * w + b) 1 0 (λ e. omega (arith, e, h)) in
      let k : w < s.v = omega (arith, f.0) in (
        f.0,
        done_on s.n w t T (λ u g. counted t w 1 u g) f.1,
        left-on s.n w t T (λ u g. counted t w 1 u g) s.v k (λ u g m. f.2 u (omega (arith, g)) m),
        one,
        f.3,
        row-root s.n (sets_heard T w) c
            (λ i l. (far (1 + 3 * i) (omega arith) ∙ (z i l).0, far (2 + 3 * i) (omega arith) ∙ (z i l).1, far (3 + 3 * i) (omega arith) ∙ (z i l).2)),
      )

  says-doing : (E : Nest) → Says E s → (r : Spot) → (r.depth ≡ s.depth) × (r.set ≡ s.set) × (r.around ≡ s.around) × (r.beyond ≡ s.beyond) → Says E r
  says-doing one f r e = (e.0 ∙ f.0, e.1 ∙ f.1, e.2 ∙ f.2, e.3 ∙ f.3)
  says-doing (two a) f r e = (e.0 ∙ f.0, e.1 ∙ f.1, e.2 ∙ f.2, e.3 ∙ f.3)
  says-doing (three a b) f r e = (e.0 ∙ f.0, e.1 ∙ f.1, e.2 ∙ f.2, e.3 ∙ f.3)
  says-doing (four a b c) f r e = (e.0 ∙ f.0, e.1 ∙ f.1, e.2 ∙ f.2, e.3 ∙ f.3)

  -- the same sets, elsewhere in the line
  pub moved : (p : Phase) → Begun s t → Begun (spot_at s p) t
  moved p f = (f.0, f.1, f.2, f.3, says-doing f.3 f.4 (spot_at s p) (refl, refl, refl, refl), f.5)

  pub least-good : (x : ℕ) → Begun s t → Begun (doing s (Least x) Of) (enacted (Least x) s t)
  least-good x f =
      let w = threshold_own s.v in
      let a = 1 + 3 * s.set in
      let l : a < 148 = omega (arith, sane.2) in
      let T = set t (148 * w + a) x in
      let p : s.set ≡ inmost f.3 = says-set f.3 s f.4 in
      let k : w < s.v = omega (arith, f.0) in (
        f.0,
        done_on s.n w t T (same-sets t w a x l) f.1,
        left-on s.n w t T (same-sets t w a x l) s.v k f.2,
        f.3,
        says-doing f.3 f.4 (doing s (Least x) Of) (refl, refl, refl, refl),
        row-changed s.n (inmost f.3) (outer f.3) (sets_heard t w) (sets_heard T w)
            (get_or-set_other t (148 * w + a) (148 * w) x 0 (λ e. omega (arith, e)))
            (λ i h g. get_or-set_other t (148 * w + a) (threshold_at w i) x 0 (λ e. g (omega (arith, e, p))))
            (λ i h. get_or-set_other t (148 * w + a) (inner_at w i) x 0 (λ e. twelve w s.set i (sym e)))
            (λ i h g. get_or-set_other t (148 * w + a) (plain_at w i) x 0 (λ e. thirteen w s.set i (sym e)))
            (λ i h. subst (λ (q : ℕ). q ⊆ all_below s.n) (sym (get_or-set_other t (148 * w + a) (plain_at w i) x 0 (λ e. thirteen w s.set i (sym e)))) (f.5.sites i h))
            f.5,
      )

  pub site-good : (x : ℕ) → x < s.n → Begun s t → Begun (doing s (Site (single x)) Members) (enacted (Site (single x)) s t)
  site-good x below f =
      let w = threshold_own s.v in
      let a = 3 + 3 * s.set in
      let l : a < 148 = omega (arith, sane.2) in
      let y = bit_or (get_or t (148 * w + a) 0) (single x) in
      let T = set t (148 * w + a) y in
      let p : s.set ≡ inmost f.3 = says-set f.3 s f.4 in
      let k : w < s.v = omega (arith, f.0) in
      let other : (i : ℕ) → (i ≡ s.set → ⊥) → get_or T (plain_at w i) 0 ≡ get_or t (plain_at w i) 0 = λ i g. get_or-set_other t (148 * w + a) (plain_at w i) y 0 (λ e. g (omega (arith, e))) in
      let new : get_or T (plain_at w s.set) 0 ⊆ all_below s.n =
      subst (λ (q : ℕ). q ⊆ all_below s.n) (sym (get_or-set_same t (148 * w + a) y 0 (omega (arith, long, l, own_below))))
      (or-⊆ (f.5.sites s.set sane.2) (single-⊆ (in_all below))) in (
        f.0,
        done_on s.n w t T (same-sets t w a y l) f.1,
        left-on s.n w t T (same-sets t w a y l) s.v k f.2,
        f.3,
        says-doing f.3 f.4 (doing s (Site (single x)) Members) (refl, refl, refl, refl),
        row-changed s.n (inmost f.3) (outer f.3) (sets_heard t w) (sets_heard T w)
            (get_or-set_other t (148 * w + a) (148 * w) y 0 (λ e. omega (arith, e)))
            (λ i h g. get_or-set_other t (148 * w + a) (threshold_at w i) y 0 (λ e. thirteen w i s.set e))
            (λ i h. get_or-set_other t (148 * w + a) (inner_at w i) y 0 (λ e. twentythree w i s.set e))
            (λ i h g. other i (λ e. g (e ∙ p)))
            (λ i h. same_or (λ (j : ℕ). get_or T (plain_at w j) 0 ⊆ all_below s.n) i s.set new
            (λ g. subst (λ (q : ℕ). q ⊆ all_below s.n) (sym (other i g)) (f.5.sites i h)))
            f.5,
      )

  pub inner-good : (held s t).sets ≤ 48 → s.depth ≤ 3 → Begun s t → Begun (inward s (held s t)) (enacted Inner (inward s (held s t)) t)
  inner-good room deep f =
      let w = threshold_own s.v in
      let a = 2 + 3 * s.set in
      let l : a < 148 = omega (arith, sane.2) in
      let c = get_or t (count_at w) 0 + 1 in
      let y = get_or t (148 * w + a) 0 + 1 in
      let m = set t (count_at w) c in
      let T = set m (148 * w + a) y in
      let p : s.set ≡ inmost f.3 = says-set f.3 s f.4 in
      let k : w < s.v = omega (arith, f.0) in
      let g = grow f.3 s (held s t) f.4 deep in
      let ag : (u : ℕ) → (u ≡ w → ⊥) → Agree 49 (sets_heard t u) (sets_heard T u) = λ u h. agree_on (counted t w c u h) (same-sets m w a y l u h) in
      let far : (b : ℕ) → 1 ≤ b → get_or m (148 * w + b) 0 ≡ get_or t (148 * w + b) 0 = λ b h. get_or-set_other t (count_at w) (148 * w + b) c 0 (λ e. omega (arith, e, h)) in
      let lm : length m ≡ 9472 = length-set t (count_at w) c ∙ long in
      let first : get_or T (count_at w) 0 ≡ get_or t (count_at w) 0 + 1 =
      get_or-set_other m (148 * w + a) (148 * w) y 0 (λ e. omega (arith, e)) ∙ get_or-set_same t (count_at w) c 0 (omega (arith, long, own_below)) in
      let inn : (i : ℕ) → i < 49 → get_or T (inner_at w i) 0 ≡ cond (eqb i (inmost f.3)) 1 0 + get_or t (inner_at w i) 0 =
      λ i h. same_or (λ (j : ℕ). get_or T (inner_at w j) 0 ≡ cond (eqb j (inmost f.3)) 1 0 + get_or t (inner_at w j) 0) i s.set
      (get_or-set_same m (148 * w + a) y 0 (omega (arith, lm, l, own_below)) ∙ rw (eq-eqb s.set (inmost f.3) p) (omega arith))
      (λ z. get_or-set_other m (148 * w + a) (inner_at w i) y 0 (λ e. z (omega (arith, e))) ∙ far (2 + 3 * i) (omega arith)
      ∙ rw (ne_eqb i (inmost f.3) (λ e. z (e ∙ sym p))) (omega arith)) in (
        f.0,
        done_on s.n w t T ag f.1,
        left-on s.n w t T ag s.v k f.2,
        g.0,
        g.1,
        subst (λ (Q : List ℕ). Row s.n Q (sets_heard T w)) (sym g.2)
            (row-inner s.n (inmost f.3) (outer f.3) (sets_heard t w) (sets_heard T w) g.3 room first
            (λ i h. get_or-set_other m (148 * w + a) (threshold_at w i) y 0 (λ e. twelve w i s.set e) ∙ far (1 + 3 * i) (omega arith))
            inn
            (λ i h. get_or-set_other m (148 * w + a) (plain_at w i) y 0 (λ e. twentythree w s.set i (sym e)) ∙ far (3 + 3 * i) (omega arith))
            f.5),
      )

  -- the innermost set reaches its threshold
  reached : (E : Nest) → Says E s → unreached (held s t) ≡ false → Reached (sets_heard t (threshold_own s.v)) (inmost E)
  unfolding unreached
  reached E f e =
      let S = sets_heard t (threshold_own s.v) in
      let z = or-none (eqb (S.threshold s.set) 0) (ltb (size (S.plain s.set) + S.inner s.set) (S.threshold s.set)) e in
      let a = eqb-false (S.threshold s.set) 0 z.0 in
      subst (λ (i : ℕ). Reached S i) (says-set E s f) (omega (arith, a), ltb-false (size (S.plain s.set) + S.inner s.set) (S.threshold s.set) z.1)

  pub back-good : 1 < s.depth → unreached (held s t) ≡ false → Begun s t → Begun (backward s) t
  back-good deep e f =
      let g = shrink f.3 s f.4 deep in (
        f.0,
        f.1,
        f.2,
        g.0,
        g.1,
        subst (λ (Q : List ℕ). Row s.n Q (sets_heard t (threshold_own s.v))) (sym g.2)
            (row-closed s.n (inmost f.3) (outer f.3) (sets_heard t (threshold_own s.v)) (reached f.3 f.4 e) f.5),
      )

  pub end-good : s.depth ≤ 1 → unreached (held s t) ≡ false → Begun s t → Done s.n s.v t × Left s.v t
  end-good flat e f =
      let w = threshold_own s.v in
      let r = subst (λ (Q : List ℕ). Row s.n Q (sets_heard t w)) (sole f.3 s f.4 flat)
      (row-closed s.n (inmost f.3) (outer f.3) (sets_heard t w) (reached f.3 f.4 e) f.5) in
      let full : Full s.n (sets_heard t w) = (row-sound s.n (sets_heard t w) r, r.unused, r.kids) in
      ((λ u h. same_or (λ (x : ℕ). Full s.n (sets_heard t x)) u w full (λ g. f.1 u (nearer u h g))), f.2)
    where
      nearer : (u : ℕ) → u < s.v → (u ≡ threshold_own s.v → ⊥) → u < threshold_own s.v
      nearer u h g = ⊎_elim (λ y. absurd (g (eqb-true u (s.v - 1) y))) (λ y. let z = eqb-false u (s.v - 1) y in omega (arith, h, z)) (cases (eqb u (s.v - 1)))
