-- Eight words joined, and all of them: how each word gets what stands in those below it.
use Prim.Native.Nat.{ℕ, zero, suc, ◌+◌, ◌*◌, ◌/◌, ◌%◌, ◌≤◌, ◌<◌}
use mathlib.Core.Bool.{Bool, true, ◌||◌, not}
use mathlib.Core.List.{List}
use mathlib.Core.Logic.{⊎_elim}
use mathlib.Core.Path.{◌≡◌, refl, sym, ap, ap₂, ◌∙◌, subst}
use native.Mathlib.Nat.{not-suc-le-zero, mod-lt}
use native.Mathlib.Omega.{arith}
use lib.Bits.{bit_or}
use lib.Dec.{eqb}
use lib.ListN.{length, get_or, set, length-set}
use lib.Seq.{get_or-set_same, get_or-set_other}
use borrow.Author.Tests.{eqb-true}
use Rattle.ground.proofs.Every.{every-at}
use Rattle.ground.proofs.Logic.{or-e, not_t, clash}
use Rattle.ground.proofs.Numbers.{same?}
use Rattle.ground.specs.Search.{every}
use Rattle.masks.proofs.Laws.Single.{∈-or, ∈-eq}
use Rattle.masks.proofs.Laws.Subsets.{⊆-refl, ⊆-trans, ⊆-le, within-⊆, ⊆-within, or-⊆-l, or-⊆-r}
use Rattle.masks.specs.Mask.{within, ◌∈◌, ◌⊆◌}
use Rattle.spread_words.specs.Inner.{join_two, join_four, join_eight, puts, joins, Joined, near_place, far_place, Spread}
use Rattle.set_words.proofs.Places.{parts-⊆, low-⊆, high-⊆}

-- what holds of the eight numbers below 8
eight : (P : ℕ → Type 0) → P 0 → P 1 → P 2 → P 3 → P 4 → P 5 → P 6 → P 7 → (i : ℕ) → i < 8 → P i
eight P a b c d e f g h zero l = a
eight P a b c d e f g h (suc zero) l = b
eight P a b c d e f g h (suc (suc zero)) l = c
eight P a b c d e f g h (suc (suc (suc zero))) l = d
eight P a b c d e f g h (suc (suc (suc (suc zero)))) l = e
eight P a b c d e f g h (suc (suc (suc (suc (suc zero))))) l = f
eight P a b c d e f g h (suc (suc (suc (suc (suc (suc zero)))))) l = g
eight P a b c d e f g h (suc (suc (suc (suc (suc (suc (suc zero))))))) l = h
eight P a b c d e f g h (suc (suc (suc (suc (suc (suc (suc (suc i)))))))) l = absurd (omega arith)

-- a word that has nothing but what stands at sets inside i; one that has all of it

record Right (f : ℕ → ℕ) (i word : ℕ) : Type 0 where
  each : (j : ℕ) → j ∈ word → (y : ℕ) × (y ⊆ i) × (j ∈ f y)

record Full (f : ℕ → ℕ) (i word : ℕ) : Type 0 where
  each : (y : ℕ) → y ⊆ i → f y ⊆ word

module _ (f : ℕ → ℕ) where
  own : (i : ℕ) → Right f i (f i)
  own i = record { each = λ j h. (i, ⊆-refl i, h) }

  more : {a i word : ℕ} → within a i ≡ true → Right f a word → Right f i word
  more {a} {i} e r = record { each = λ j h. let x = r.each j h in (x.0, ⊆-trans x.1 (within-⊆ a i e), x.2) }

  both : {i : ℕ} (a b : ℕ) → Right f i a → Right f i b → Right f i (bit_or a b)
  both a b p q = record { each = λ j h. ⊎_elim (λ k. p.each j k) (λ k. q.each j k) (∈-or a b h) }

  joined-right : (i : ℕ) → i < 8 → Right f i (join_eight f i)
  unfolding join_eight within
  joined-right = eight (λ i. Right f i (join_eight f i)) (own 0) r1 r2 r3 r4 r5 r6 (both _ _ (both _ _ (both _ _ (own 7) (more refl r3)) (more refl r5)) (more refl r6))
    where
      r1 : Right f 1 (bit_or (f 1) (f 0))
      r1 = both _ _ (own 1) (more refl (own 0))

      r2 : Right f 2 (bit_or (f 2) (f 0))
      r2 = both _ _ (own 2) (more refl (own 0))

      r3 : Right f 3 (bit_or (bit_or (f 3) (bit_or (f 1) (f 0))) (bit_or (f 2) (f 0)))
      r3 = both _ _ (both _ _ (own 3) (more refl r1)) (more refl r2)

      r4 : Right f 4 (bit_or (f 4) (f 0))
      r4 = both _ _ (own 4) (more refl (own 0))

      r5 : Right f 5 (bit_or (bit_or (f 5) (bit_or (f 1) (f 0))) (bit_or (f 4) (f 0)))
      r5 = both _ _ (both _ _ (own 5) (more refl r1)) (more refl r4)

      r6 : Right f 6 (bit_or (bit_or (f 6) (bit_or (f 2) (f 0))) (bit_or (f 4) (f 0)))
      r6 = both _ _ (both _ _ (own 6) (more refl r2)) (more refl r4)

  -- a set inside i is i, or inside one of three

  abbrev cover : ℕ → ℕ → ℕ → ℕ → ℕ → Bool
  cover i a b c y = not (within y i) || (eqb y i || (within y a || (within y b || within y c)))

  grown : (i a b c : ℕ) {p q r word : ℕ} → every (suc i) (cover i a b c) ≡ true → f i ⊆ word → Full f a p → p ⊆ word → Full f b q → q ⊆ word → Full f c r → r ⊆ word → Full f i word
  grown i a b c {p} {q} {r} {word} e s fa sa fb sb fc sc =
      record {
        each = λ y h.
            ⊎_elim (λ k. absurd (clash (⊆-within h) (not_t (within y i) k)))
            (λ k.
            ⊎_elim (λ m. subst (λ (z : ℕ). f z ⊆ word) (sym (eqb-true y i m)) s)
            (λ m.
            ⊎_elim (λ n. ⊆-trans (fa.each y (within-⊆ y a n)) sa)
            (λ n. ⊎_elim (λ o. ⊆-trans (fb.each y (within-⊆ y b o)) sb) (λ o. ⊆-trans (fc.each y (within-⊆ y c o)) sc) (or-e (within y b) (within y c) n)) (or-e (within y a) (within y b || within y c) m))
            (or-e (eqb y i) (within y a || (within y b || within y c)) k))
            (or-e (not (within y i)) (eqb y i || (within y a || (within y b || within y c))) (every-at (suc i) (cover i a b c) e y (step (⊆-le h))));
      }
    where
      step : {y : ℕ} → y ≤ i → y < suc i
      step l = omega arith

  first : Full f 0 (f 0)
  first = record { each = λ y s. subst (λ (z : ℕ). f z ⊆ f 0) (none (⊆-le s)) (⊆-refl (f 0)) }
    where
      none : {y : ℕ} → y ≤ 0 → 0 ≡ y
      none l = omega arith

  joined-full : (i : ℕ) → i < 8 → Full f i (join_eight f i)
  unfolding join_eight within every
  joined-full =
      eight (λ i. Full f i (join_eight f i)) first f1 f2 f3 f4 f5 f6
      (grown 7 3 5 6 refl
      (⊆-trans (or-⊆-l _ _) (⊆-trans (or-⊆-l _ _) (or-⊆-l _ _)))
      f3 (⊆-trans (or-⊆-r (f 7) _) (⊆-trans (or-⊆-l _ _) (or-⊆-l _ _)))
      f5 (⊆-trans (or-⊆-r (bit_or (f 7) j3) _) (or-⊆-l _ _))
      f6 (or-⊆-r (bit_or (bit_or (f 7) j3) j5) _))
    where
      j1 : ℕ
      j1 = bit_or (f 1) (f 0)

      j2 : ℕ
      j2 = bit_or (f 2) (f 0)

      j3 : ℕ
      j3 = bit_or (bit_or (f 3) j1) j2

      j4 : ℕ
      j4 = bit_or (f 4) (f 0)

      j5 : ℕ
      j5 = bit_or (bit_or (f 5) j1) j4

      two : (i : ℕ) → every (suc i) (cover i 0 0 0) ≡ true → Full f i (bit_or (f i) (f 0))
      two i e = grown i 0 0 0 e (or-⊆-l (f i) (f 0)) first (or-⊆-r (f i) (f 0)) first (or-⊆-r (f i) (f 0)) first (or-⊆-r (f i) (f 0))

      three : (i a b : ℕ) {p q : ℕ} → every (suc i) (cover i a b b) ≡ true → Full f a p → Full f b q → Full f i (bit_or (bit_or (f i) p) q)
      three i a b {p} {q} e fa fb =
          grown i a b b e (⊆-trans (or-⊆-l (f i) p) (or-⊆-l (bit_or (f i) p) q)) fa (⊆-trans (or-⊆-r (f i) p) (or-⊆-l (bit_or (f i) p) q)) fb (or-⊆-r (bit_or (f i) p) q) fb (or-⊆-r (bit_or (f i) p) q)

      f1 : Full f 1 j1
      f1 = two 1 refl

      f2 : Full f 2 j2
      f2 = two 2 refl

      f3 : Full f 3 j3
      f3 = three 3 1 2 refl f1 f2

      f4 : Full f 4 j4
      f4 = two 4 refl

      f5 : Full f 5 j5
      f5 = three 5 1 4 refl f1 f4

      f6 : Full f 6 (bit_or (bit_or (f 6) j2) j4)
      f6 = three 6 2 4 refl f2 f4

-- the places that get something, and all others

module _ (place g : ℕ → ℕ) (words : List ℕ) where
  puts-long : (k : ℕ) → length (puts k place g words) ≡ length words
  unfolding puts
  puts-long zero = refl
  puts-long (suc k) = length-set (puts k place g words) (place (suc k)) (g (suc k)) ∙ puts-long k

  puts-other : (k y : ℕ) → ((i : ℕ) → suc i ≤ k → y ≡ place (suc i) → ⊥) → get_or (puts k place g words) y 0 ≡ get_or words y 0
  unfolding puts
  puts-other zero y f = refl
  puts-other (suc k) y f =
      get_or-set_other (puts k place g words) (place (suc k)) y (g (suc k)) 0 (λ e. f k (omega arith) e) ∙ puts-other k y (λ i l e. f i (omega arith) e)

  puts-at : (k i : ℕ) → suc i ≤ k → ((y : ℕ) → y ≤ k → place (suc i) ≡ place y → suc i ≡ y) → place (suc i) < length words → get_or (puts k place g words) (place (suc i)) 0 ≡ g (suc i)
  unfolding puts
  puts-at zero i l f s = absurd (not-suc-le-zero l)
  puts-at (suc k) i l f s =
      ⊎_elim
      (λ e.
      subst (λ (y : ℕ). get_or (set (puts k place g words) (place (suc k)) (g (suc k))) (place y) 0 ≡ g y) (sym e)
      (get_or-set_same (puts k place g words) (place (suc k)) (g (suc k)) 0 (subst (λ (y : ℕ). place y < length (puts k place g words)) e (subst (λ (y : ℕ). place (suc i) < y) (sym (puts-long k)) s))))
      (λ ne.
      get_or-set_other (puts k place g words) (place (suc k)) (place (suc i)) (g (suc k)) 0 (λ e. ne (f (suc k) (omega arith) e))
      ∙ puts-at k i (less l ne) (λ y h e. f y (omega arith) e) s)
      (same? (suc i) (suc k))
    where
      less : suc i ≤ suc k → (suc i ≡ suc k → ⊥) → suc i ≤ k
      less a b = omega arith

-- words that are the same are joined to the same
joined_same : (f g : ℕ → ℕ) → ((i : ℕ) → i < 8 → f i ≡ g i) → (i : ℕ) → i < 8 → join_eight f i ≡ join_eight g i
unfolding join_eight
joined_same f g e =
    eight (λ i. join_eight f i ≡ join_eight g i) e0 (pairs 1 (omega arith)) (pairs 2 (omega arith)) (fours 3 1 2 (omega arith) (omega arith) (omega arith)) (pairs 4 (omega arith))
    (fours 5 1 4 (omega arith) (omega arith) (omega arith)) (fours 6 2 4 (omega arith) (omega arith) (omega arith))
    (ap₂ bit_or (ap₂ bit_or (ap₂ bit_or (e 7 (omega arith)) (fours 3 1 2 (omega arith) (omega arith) (omega arith))) (fours 5 1 4 (omega arith) (omega arith) (omega arith))) (fours 6 2 4 (omega arith) (omega arith) (omega arith)))
  where
    e0 : f 0 ≡ g 0
    e0 = e 0 (omega arith)

    pairs : (i : ℕ) → i < 8 → join_two f i ≡ join_two g i
    pairs i l = ap₂ bit_or (e i l) e0

    fours : (i a b : ℕ) → i < 8 → a < 8 → b < 8 → join_four f i a b ≡ join_four g i a b
    fours i a b li la lb = ap₂ bit_or (ap₂ bit_or (e i li) (pairs a la)) (pairs b lb)

-- one eight more

module _ (place : ℕ → ℕ → ℕ) (inside : (k i : ℕ) → k < 8 → i < 8 → place k i < 64)
    (alone : (k i m y : ℕ) → k < 8 → i < 8 → m < 8 → y < 8 → place k i ≡ place m y → (k ≡ m) × (i ≡ y)) where
  pub joined-none : (old : List ℕ) → length old ≡ 64 → Joined place old 0 old
  joined-none old e = record { long = e; done = λ k i l. absurd (not-suc-le-zero l); left = λ k i l lk li. refl }

  module _ {old words : List ℕ} (k : ℕ) (lk : k < 8) (h : Joined place old k words) where
    at : (i : ℕ) → i < 8 → get_or (joins (place k) words) (place k i) 0 ≡ join_eight (λ y. get_or words (place k y) 0) i
    unfolding joins join_eight
    at zero li = puts-other (place k) (join_eight (λ y. get_or words (place k y) 0)) words 7 (place k 0) (λ y ly e. first_alone y (alone k 0 k (suc y) lk li lk (omega (arith, ly)) e).1)
      where
        first_alone : (y : ℕ) → 0 ≡ suc y → ⊥
        first_alone y e = omega arith
    at (suc i) li =
        puts-at (place k) (join_eight (λ y. get_or words (place k y) 0)) words 7 i (omega arith) (λ y ly e. (alone k (suc i) k y lk li lk (omega (arith, ly)) e).1)
        (subst (λ (y : ℕ). place k (suc i) < y) (sym h.long) (inside k (suc i) lk li))

    kept : (m i : ℕ) → m < 8 → i < 8 → (m ≡ k → ⊥) → get_or (joins (place k) words) (place m i) 0 ≡ get_or words (place m i) 0
    unfolding joins
    kept m i lm li ne =
        puts-other (place k) (join_eight (λ y. get_or words (place k y) 0)) words 7 (place m i) (λ y ly e. ne (alone m i k (suc y) lm li lk (omega (arith, ly)) e).0)

    long : length (joins (place k) words) ≡ 64
    unfolding joins
    long = puts-long (place k) (join_eight (λ y. get_or words (place k y) 0)) words 7 ∙ h.long

    pub joined-more : Joined place old (k + 1) (joins (place k) words)
    joined-more =
        record {
          long = long;
          done = λ m i lm li.
              ⊎_elim (λ e. subst (λ (z : ℕ). get_or (joins (place k) words) (place z i) 0 ≡ join_eight (λ y. get_or old (place z y) 0) i) (sym e) (at i li ∙ joined_same _ _ (λ y ly. h.left k y (omega arith) lk ly) i li))
              (λ ne. kept m i (omega (arith, lm, lk)) li ne ∙ h.done m i (less m lm ne) li) (same? m k);
          left = λ m i lm lk8 li. kept m i lk8 li (λ e. bad m lm e) ∙ h.left m i (omega (arith, lm)) lk8 li;
        }
      where
        less : (m : ℕ) → m < k + 1 → (m ≡ k → ⊥) → m < k
        less m h ne = omega arith

        bad : (m : ℕ) → k + 1 ≤ m → m ≡ k → ⊥
        bad m h e = omega arith

-- where the eights stand

pub near-inside : (k i : ℕ) → k < 8 → i < 8 → near_place k i < 64
near-inside k i lk li = omega arith

pub near-alone : (k i m y : ℕ) → k < 8 → i < 8 → m < 8 → y < 8 → near_place k i ≡ near_place m y → (k ≡ m) × (i ≡ y)
near-alone k i m y lk li lm ly e = (omega arith, omega arith)

pub far-inside : (k i : ℕ) → k < 8 → i < 8 → far_place k i < 64
far-inside k i lk li = omega arith

pub far-alone : (k i m y : ℕ) → k < 8 → i < 8 → m < 8 → y < 8 → far_place k i ≡ far_place m y → (k ≡ m) × (i ≡ y)
far-alone k i m y lk li lm ly e = (omega arith, omega arith)

-- both after each other: all words below
pub spread-both : {old mid new : List ℕ} → Joined near_place old 8 mid → Joined far_place mid 8 new → Spread old new
spread-both {old} {mid} {new} n f =
    record {
      long = f.long;
      right = λ w j lw h.
          let a = (joined-right (λ y. get_or mid (w % 8 + y * 8) 0) (w / 8) (omega arith)).each j (∈-eq (ap (λ (z : ℕ). get_or new z 0) (sym (turned w)) ∙ f.done (w % 8) (w / 8) (omega arith) (omega arith)) h) in
          let la = small a.1 (omega arith) in
          let b = (joined-right (λ y. get_or old (a.0 * 8 + y * 1) 0) (w % 8) (omega arith)).each j
          (∈-eq (ap (λ (z : ℕ). get_or mid z 0) (swap (w % 8) a.0) ∙ n.done a.0 (w % 8) la (omega arith)) a.2) in
          (a.0 * 8 + b.0 * 1, inside w a.1 b.1, b.2);
      full = λ y w lw s.
          let p = parts y w s in
          let ly = ⊆-le s in
          subst (λ (z : ℕ). get_or old z 0 ⊆ get_or new w 0) (straight y)
          (⊆-trans ((joined-full (λ i. get_or old (y / 8 * 8 + i * 1) 0) (w % 8) (omega arith)).each (y % 8) p.1)
          (subst (λ (z : ℕ). z ⊆ get_or new w 0) (ap (λ (z : ℕ). get_or mid z 0) (swap (w % 8) (y / 8)) ∙ n.done (y / 8) (w % 8) (omega arith) (omega arith))
          (subst (λ (z : ℕ). get_or mid (w % 8 + y / 8 * 8) 0 ⊆ z) (sym (ap (λ (z : ℕ). get_or new z 0) (sym (turned w)) ∙ f.done (w % 8) (w / 8) (omega arith) (omega arith)))
          ((joined-full (λ i. get_or mid (w % 8 + i * 8) 0) (w / 8) (omega arith)).each (y / 8) p.0))));
    }
  where
    turned : (w : ℕ) → w % 8 + w / 8 * 8 ≡ w
    turned w = omega arith

    straight : (w : ℕ) → w / 8 * 8 + w % 8 * 1 ≡ w
    straight w = omega arith

    swap : (i a : ℕ) → i + a * 8 ≡ a * 8 + i * 1
    swap i a = omega arith

    small : {a b : ℕ} → a ⊆ b → b < 8 → a < 8
    small s l = omega (arith, ⊆-le s)

    plain : (a b : ℕ) → a * 8 + b ≡ a * 8 + b * 1
    plain a b = omega arith

    whole : (w : ℕ) → w / 8 * 8 + w % 8 ≡ w
    whole w = omega arith

    inside : (w : ℕ) {a b : ℕ} → a ⊆ w / 8 → b ⊆ w % 8 → a * 8 + b * 1 ⊆ w
    inside w {a} {b} s t =
        subst (λ (z : ℕ). z ⊆ w) (plain a b)
        (subst (λ (z : ℕ). a * 8 + b ⊆ z) (whole w) (parts-⊆ 3 a (w / 8) (small t (omega arith)) (omega arith) s t))

    parts : (y w : ℕ) → y ⊆ w → (y / 8 ⊆ w / 8) × (y % 8 ⊆ w % 8)
    parts y w s =
        let t = subst (λ (z : ℕ). z ⊆ w / 8 * 8 + w % 8) (sym (whole y)) (subst (λ (z : ℕ). y ⊆ z) (sym (whole w)) s) in
        (high-⊆ 3 (y / 8) (w / 8) (mod-lt y (omega arith)) (mod-lt w (omega arith)) t, low-⊆ 3 (y / 8) (w / 8) (mod-lt y (omega arith)) (mod-lt w (omega arith)) t)
