-- Laws of the fewest faulty sites that leave nobody intact: what the search carries, and that its answer is the one there is.
use Prim.Native.Nat.{ℕ, ◌+◌, ◌^◌, ◌≤◌, ◌<◌}
use mathlib.Core.Bool.{Bool, true, false, ◌&&◌}
use mathlib.Core.Logic.{⊎_elim}
use mathlib.Core.Path.{◌≡◌, refl, sym, ap, ◌∙◌, subst}
use native.Mathlib.Nat.{eq-or-lt_of_le, le_antisymm}
use native.Mathlib.Omega.{arith}
use lib.Count.{ones-ones}
use lib.Dec.{eqb, ltb}
use lib.Pow.{ones_lt}
use borrow.Author.Tests.{eqb-true, eq-eqb, ltb-true, ltb-false}
use Rattle.ground.proofs.Least.{least-le, least-passes, least-before}
use Rattle.ground.proofs.Logic.{and_l, and_r, and_i, cases, clash}
use Rattle.ground.proofs.Some.{some_of, some-ex}
use Rattle.ground.specs.Search.{least}
use Rattle.masks.proofs.Laws.AllBelow.{in_all, ⊆-all}
use Rattle.masks.proofs.Laws.Gather.{gather-∈, gather-lt}
use Rattle.masks.proofs.Laws.Size.{size-⊂}
use Rattle.masks.proofs.Laws.Subsets.{∈-below, empty}
use Rattle.masks.specs.Mask.{all_below, size, gather}
use Rattle.sets.specs.Slices.{Slices}
use Rattle.verdicts.proofs.VerdictLaws.{intact-ex}
use Rattle.verdicts.specs.Verdicts.{is_intact, intact}
use Rattle.risk.specs.Inner.{First, Best}
use Rattle.risk.specs.Risk.{ruinous, ruined_by, fewest, first_ruin}

-- nothing that passes is below the least, and the least passes if anything does
lowest-of : (k : ℕ) (p : ℕ → Bool) (j : ℕ) → p j ≡ true → least k p ≤ j
lowest-of k p j e =
    ⊎_elim (λ l. absurd (clash e (least-before k p j (ltb-true j (least k p) l)))) (λ l. ltb-false j (least k p) l) (cases (ltb j (least k p)))

passes_of : (k : ℕ) (p : ℕ → Bool) (j : ℕ) → j < k → p j ≡ true → (least k p < k) × (p (least k p) ≡ true)
passes_of k p j l e = let h = below (lowest-of k p j e) in (h, least-passes k p h)
  where
    below : least k p ≤ j → least k p < k
    below m = omega arith

-- there is one such set only
pub first-once : (r : Slices) (n : ℕ) {k F j G : ℕ} → First r n k F → First r n j G → (k ≡ j) × (F ≡ G)
first-once r n {k} {F} {j} {G} a b =
    let e : k ≡ j = le_antisymm (fewer b.counts (a.least G b.below b.ruins)) (fewer a.counts (b.least F a.below a.ruins)) in
    (e, le_antisymm (a.lowest G b.below b.ruins (b.counts ∙ sym e)) (b.lowest F a.below a.ruins (a.counts ∙ e)))
  where
    fewer : {x y z : ℕ} → x ≡ y → z ≤ x → z ≤ y
    fewer e l = omega arith

module _ (r : Slices) (n : ℕ) where
  -- with all sites faulty nobody is intact
  pub all-ruinous : ruinous r n (all_below n) ≡ true
  unfolding ruinous intact
  all-ruinous =
      eq-eqb (gather n (is_intact r n (all_below n))) 0
      (empty (gather n (is_intact r n (all_below n)))
      (λ v h.
      let x = intact-ex r n (all_below n) v (gather-∈ n (is_intact r n (all_below n)) h) in
      x.4 (x.3.each v (in_all (∈-below (gather-lt n (is_intact r n (all_below n))) h)))))

  abbrev hits : ℕ → ℕ → Bool
  hits k F = eqb (size F) k && ruinous r n F

  ruined-of : (F : ℕ) → F < 2 ^ n → ruinous r n F ≡ true → ruined_by r n (size F) ≡ true
  unfolding ruined_by
  ruined-of F l e = some_of (2 ^ n) (hits (size F)) l (and_i (eq-eqb (size F) (size F) refl) e)

  ruined-ex : (k : ℕ) → ruined_by r n k ≡ true → (F : ℕ) × (F < 2 ^ n) × (hits k F ≡ true)
  unfolding ruined_by
  ruined-ex k e = some-ex (2 ^ n) (hits k) e

  -- some set has as many members as the fewest
  fewest-ruined : ruined_by r n (fewest r n) ≡ true
  unfolding fewest
  fewest-ruined =
      ⊎_elim (λ e. subst (λ (k : ℕ). ruined_by r n k ≡ true) (ones-ones n ∙ sym e) (ruined-of (all_below n) (ones_lt n) all-ruinous)) (λ l. least-passes n (ruined_by r n) l)
      (eq-or-lt_of_le (least-le n (ruined_by r n)))

  pub first-is : First r n (fewest r n) (first_ruin r n)
  unfolding fewest first_ruin
  first-is =
      let x = ruined-ex (fewest r n) fewest-ruined in
      let p = passes_of (2 ^ n) (hits (fewest r n)) x.0 x.1 x.2 in
      record {
        below = p.0;
        ruins = and_r (eqb (size (first_ruin r n)) (fewest r n)) (ruinous r n (first_ruin r n)) p.1;
        counts = eqb-true (size (first_ruin r n)) (fewest r n) (and_l (eqb (size (first_ruin r n)) (fewest r n)) (ruinous r n (first_ruin r n)) p.1);
        least = λ G l e. lowest-of n (ruined_by r n) (size G) (ruined-of G l e);
        lowest = λ G l e c. lowest-of (2 ^ n) (hits (fewest r n)) G (and_i (eq-eqb (size G) (fewest r n) c) e);
      }

  -- the search begins with all sites
  pub best_none : Best r n 0 (all_below n)
  best_none =
      record {
        below = ones_lt n;
        ruins = all-ruinous;
        least = λ G l e. absurd (omega arith);
        lowest = λ G l e c. fewer G c l (size-⊂ (⊆-all n (under G l (ones_lt n))));
      }
    where
      under : (G : ℕ) → G < all_below n → all_below n < 2 ^ n → G < 2 ^ n
      under G a b = omega arith

      fewer : (G : ℕ) → size G ≡ size (all_below n) → G < all_below n → ((G ≡ all_below n → ⊥) → size G < size (all_below n)) → ⊥
      fewer G c l f = let h = f (λ e. omega arith) in omega arith

  -- a set that leaves nobody intact and has fewer members is the best; any other is passed
  abbrev pub better : ℕ → ℕ → Bool
  better F best = ltb (size F) (size best) && ruinous r n F

  pub best-taken : {F best : ℕ} → F < 2 ^ n → better F best ≡ true → Best r n F best → Best r n (F + 1) F
  best-taken {F} {best} l e b =
      let m = ltb-true (size F) (size best) (and_l (ltb (size F) (size best)) (ruinous r n F) e) in
      record {
        below = l;
        ruins = and_r (ltb (size F) (size best)) (ruinous r n F) e;
        least = λ G h g. ⊎_elim (λ z. less G m (b.least G (ltb-true G F z) g)) (λ z. same G h (ltb-false G F z)) (cases (ltb G F));
        lowest = λ G h g c. more G m c (b.least G h g);
      }
    where
      less : (G : ℕ) → size F < size best → size best ≤ size G → size F ≤ size G
      less G a c = omega arith

      same : (G : ℕ) → G < F + 1 → F ≤ G → size F ≤ size G
      same G a c = let z : F ≡ G = omega arith in omega (arith, ap size z)

      more : (G : ℕ) → size F < size best → size G ≡ size F → size best ≤ size G → ⊥
      more G a e c = omega arith

  pub best-passed : {F best : ℕ} → better F best ≡ false → Best r n F best → Best r n (F + 1) best
  best-passed {F} {best} e b =
      record {
        below = b.below;
        ruins = b.ruins;
        least = λ G h g. ⊎_elim (λ z. b.least G (ltb-true G F z) g) (λ z. here G (upto G h (ltb-false G F z)) g) (cases (ltb G F));
        lowest = b.lowest;
      }
    where
      upto : (G : ℕ) → G < F + 1 → F ≤ G → F ≡ G
      upto G a c = omega arith

      no-fewer : ruinous r n F ≡ true → size best ≤ size F
      no-fewer g = ⊎_elim (λ z. absurd (clash (and_i z g) e)) (λ z. ltb-false (size F) (size best) z) (cases (ltb (size F) (size best)))

      here : (G : ℕ) → F ≡ G → ruinous r n G ≡ true → size best ≤ size G
      here G q g = subst (λ (x : ℕ). size best ≤ size x) q (no-fewer (subst (λ (x : ℕ). ruinous r n x ≡ true) (sym q) g))

  -- at the end it is the first
  best-first : {F best : ℕ} → 2 ^ n ≤ F → Best r n F best → First r n (size best) best
  best-first {F} {best} l b =
      record {
        below = b.below;
        ruins = b.ruins;
        counts = refl;
        least = λ G h g. b.least G (upto G h l) g;
        lowest = λ G h g c. ⊎_elim (λ z. absurd (b.lowest G (ltb-true G best z) g c)) (λ z. ltb-false G best z) (cases (ltb G best));
      }
    where
      upto : (G : ℕ) → G < 2 ^ n → 2 ^ n ≤ F → G < F
      upto G a c = omega arith

  pub best-end : {F best : ℕ} → 2 ^ n ≤ F → Best r n F best → best ≡ first_ruin r n
  best-end l b = (first-once r n (best-first l b) first-is).1

  pub first-counts : size (first_ruin r n) ≡ fewest r n
  first-counts = first-is.counts
