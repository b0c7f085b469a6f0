-- The computed verdicts decide the paper's statements: for any table that is lawful, and so for every checked table.
use Prim.Native.Nat.{ℕ, ◌<◌}
use mathlib.Core.Bool.{Bool, true, false, ◌||◌}
use mathlib.Core.Logic.{inl, inr, ⊎_elim, ◌↔◌}
use mathlib.Core.Path.{◌≡◌, sym, ap, ◌∙◌, subst}
use lib.Dec.{eqb}
use lib.Pow.{ones_lt}
use borrow.Author.Tests.{eqb-true, eq-eqb}
use Rattle.ground.proofs.Logic.{and_l, and_r, and_i, or-i, or-e}
use Rattle.masks.proofs.Laws.AllBelow.{⊆-all, in_all}
use Rattle.masks.proofs.Laws.Gather.{∈-gather, gather-∈, gather-lt}
use Rattle.masks.proofs.Laws.Subsets.{∈-below, below-⊆, minus-⊆, ∈-minus, minus-not-in}
use Rattle.masks.specs.Mask.{minus, all_below, ◌∈◌, ◌⊆◌}
use Rattle.sets.proofs.Decides.{quorum-is, is-quorum}
use Rattle.sets.proofs.Lawful.{Answers, inside-answers, deleted-answers}
use Rattle.sets.proofs.Groups.{lawful}
use Rattle.sets.specs.Forms.{LawfulSlices}
use Rattle.sets.specs.Paper.{Fbqs, Quorum, Intersection, Dispensable, Intact, Befouled}
use Rattle.sets.specs.Quorum.{quorum}
use Rattle.sets.specs.Slices.{Slices}
use Rattle.verdicts.specs.Decides.{Apart, VerdictsDecide, TableVerdicts}
use Rattle.verdicts.specs.Verdicts.{beside, first_apart, meets, dispensable, is_intact, intact}
use Rattle.verdicts.proofs.VerdictLaws.{apart-first, apart-second, beside-apart, beside-contains, apart_of, first-apart-is, first-apart-smallest, meets-of, meets-common, intact-of, intact-ex}

-- of a rule that answers for S
module _ {S : Fbqs} {s : ℕ → ℕ → Bool} {n : ℕ} (answers : Answers S s n) where
  pub meets-is : (meets s n ≡ true) ↔ Intersection S
  meets-is = (
    λ e p q kp kq z. meets-common s n answers.rule e p q (is-quorum answers kp) (is-quorum answers kq) z,
    λ f. meets-of s n (λ p q kp kq z. f p q (quorum-is answers kp) (quorum-is answers kq) z),
  )

  pub apart-is : meets s n ≡ false → Apart S (first_apart s n) (beside s n (first_apart s n))
  apart-is e =
      let p = first_apart s n in
      let h = first-apart-is s n e in
      record {
        first = quorum-is answers (apart-first s n p h);
        second = quorum-is answers (apart-second s n p h);
        no-common = beside-apart s n p;
        smallest = λ a b ka kb z. first-apart-smallest s n a (apart_of s n answers.rule a b (is-quorum answers ka) (is-quorum answers kb) z);
        largest-beside = λ b kb z. beside-contains s n answers.rule p (is-quorum answers kb) z;
      }

-- of a lawful table
module _ {S : Fbqs} {r : Slices} {n : ℕ} (lawful : LawfulSlices S r n) where
  to-sites : {b : ℕ} → b ⊆ all_below n → b ⊆ S.sites
  to-sites {b} sub = subst (λ (x : ℕ). b ⊆ x) (sym lawful.all-sites) sub

  of-sites : {b : ℕ} → b ⊆ S.sites → b ⊆ all_below n
  of-sites {b} sub = subst (λ (x : ℕ). b ⊆ x) lawful.all-sites sub

  dispensable-is : (b : ℕ) → b ⊆ all_below n → dispensable r n b ≡ true → Dispensable S b
  unfolding dispensable
  dispensable-is b sub e =
      let rest = quorum r.inside n (minus (all_below n) b) in
      record {
        of-sites = to-sites sub;
        intersection = (meets-is (deleted-answers lawful b)).0 (and_l (meets (r.deleted b) n) (rest || eqb b (all_below n)) e);
        availability =
            ⊎_elim (λ k. inl (subst (λ (x : ℕ). Quorum S (minus x b)) (sym lawful.all-sites) (quorum-is (inside-answers lawful) k)))
            (λ k. inr (eqb-true b (all_below n) k ∙ sym lawful.all-sites))
            (or-e rest (eqb b (all_below n)) (and_r (meets (r.deleted b) n) (rest || eqb b (all_below n)) e));
      }

  is-dispensable : {b : ℕ} → Dispensable S b → dispensable r n b ≡ true
  unfolding dispensable
  is-dispensable {b} d =
      let rest = quorum r.inside n (minus (all_below n) b) in
      and_i ((meets-is (deleted-answers lawful b)).1 d.intersection)
      (⊎_elim
      (λ k. ap (λ (x : Bool). x || eqb b (all_below n)) (is-quorum (inside-answers lawful) (subst (λ (x : ℕ). Quorum S (minus x b)) lawful.all-sites k)))
      (λ k. or-i rest (eqb b (all_below n)) (eq-eqb b (all_below n) (k ∙ lawful.all-sites))) d.availability)

  intact-is : (f v : ℕ) → v < n → is_intact r n f v ≡ true → Intact S f v
  intact-is f v l e =
      let x = intact-ex r n f v e in
      record {
        site = subst (λ (y : ℕ). v ∈ y) (sym lawful.all-sites) (in_all l);
        set = x.0;
        dispensable = dispensable-is x.0 (⊆-all n x.1) x.2;
        contains = x.3;
        outside = x.4;
      }

  is-intact : (f v : ℕ) → Intact S f v → is_intact r n f v ≡ true
  is-intact f v i =
      intact-of r n f v i.set (below-⊆ n (of-sites i.dispensable.of-sites) (ones_lt n)) (is-dispensable i.dispensable) i.contains i.outside

  intact-set-is : (f v : ℕ) → (v ∈ intact r n f) ↔ Intact S f v
  unfolding intact
  intact-set-is f v = (
    λ h. intact-is f v (∈-below (gather-lt n (is_intact r n f)) h) (gather-∈ n (is_intact r n f) h),
    λ i. ∈-gather (is_intact r n f) (∈-below (ones_lt n) (subst (λ (x : ℕ). v ∈ x) lawful.all-sites i.site)) (is-intact f v i),
  )

  befouled-set-is : (f v : ℕ) → (v ∈ minus (all_below n) (intact r n f)) ↔ Befouled S f v
  befouled-set-is f v = (
    λ h. (subst (λ (x : ℕ). v ∈ x) (sym lawful.all-sites) ((minus-⊆ (all_below n) (intact r n f)).each v h), λ i. minus-not-in (all_below n) h ((intact-set-is f v).1 i)),
    λ b. ∈-minus (subst (λ (x : ℕ). v ∈ x) lawful.all-sites b.0) (λ h. b.1 ((intact-set-is f v).0 h)),
  )

  pub verdicts-decide : VerdictsDecide S r n
  verdicts-decide =
      record {
        meets-decides = meets-is (inside-answers lawful);
        apart-decides = apart-is (inside-answers lawful);
        dispensable-decides = λ b sub. (dispensable-is b sub, is-dispensable);
        intact-decides = λ f v l. (intact-is f v l, is-intact f v);
        intact-set = intact-set-is;
        befouled-set = befouled-set-is;
      }

-- of a checked table
pub table-verdicts : TableVerdicts
table-verdicts t c = verdicts-decide (lawful t c)
