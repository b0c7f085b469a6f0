-- Tests that are lawful: what is asked of a table, whole or with some sites deleted, is answered about its slices. All that the paper's statements and the
-- voting ask of the table follows from it (Decides, Promises, WholeQuorum). A checked table in memory is lawful.
use Prim.Native.Nat.{ℕ}
use mathlib.Core.Bool.{Bool, true, ◌&&◌, not}
use mathlib.Core.List.{List}
use mathlib.Core.Path.{◌≡◌, refl, sym, ap, ap₂, ◌∙◌, subst, fun_ext}
use lib.Bits.{bit_and, bit_or, or_zero_r}
use lib.Pow.{ones_lt}
use Rattle.ground.proofs.Logic.{and_l, and_r, and_i, is_false, clash, not_t}
use Rattle.masks.proofs.Laws.Apart.{minus-⊆-or, or-⊆-minus}
use Rattle.masks.proofs.Laws.Members.{has-zero}
use Rattle.masks.proofs.Laws.Subsets.{mem, ⊆-refl, ⊆-trans, ∈-below, or-⊆, or-⊆-l, or-⊆-r, minus-⊆, ∈-minus, minus-not-in}
use Rattle.masks.specs.Mask.{has, minus, others, all_below, ◌∈◌, ◌⊆◌}
use Rattle.sets.specs.Paper.{Fbqs, WellFormed, delete}
use Rattle.sets.specs.Forms.{LawfulSlices}
use Rattle.sets.specs.Slices.{Slices, fbqs_of, slices_of}
use Rattle.sets.proofs.Quorum.{Rule}
use Rattle.sets.proofs.Slices.{inside_of, inside-ex, deleted-inside, blocked-meets, unblocked-misses}
use Rattle.table.specs.Table.{slice_of, Table}

-- the rule s, asked of the n sites, is "some slice inside" in S
pub record Answers (S : Fbqs) (s : ℕ → ℕ → Bool) (n : ℕ) : Type 0 where
  pub of-sites : S.sites ⊆ all_below n
  pub rule : Rule s
  pub site : (v u : ℕ) → v ∈ all_below n → s v u ≡ true → v ∈ S.sites
  pub slice : (v u : ℕ) → s v u ≡ true → (q : ℕ) × S.Slice v q × (q ⊆ u)
  pub inside : (v u q : ℕ) → v ∈ S.sites → S.Slice v q → q ⊆ u → s v u ≡ true

module _ {S : Fbqs} {r : Slices} {n : ℕ} (lawful : LawfulSlices S r n) where
  pub inside-grows : Rule r.inside
  inside-grows =
      record { grows = λ v a b sub e. let x = lawful.slice_inside v a e in lawful.inside-slice v b x.0 x.1 (⊆-trans x.2 sub) }

  -- `inside` answers for S
  pub inside-answers : Answers S r.inside n
  inside-answers =
      record {
        of-sites = subst (λ (x : ℕ). x ⊆ all_below n) (sym lawful.all-sites) (⊆-refl (all_below n));
        rule = inside-grows;
        site = λ v u h e. subst (λ (x : ℕ). v ∈ x) (sym lawful.all-sites) h;
        slice = lawful.slice_inside;
        inside = λ v u q h. lawful.inside-slice v u q;
      }

  -- `deleted b` answers for S with b deleted

  pub deleted-stays : (b v u : ℕ) → r.deleted b v u ≡ true → v ∈ b → ⊥
  deleted-stays b v u e h =
      clash h.holds (not_t (has b v) (and_l (not (has b v)) (r.inside v (bit_or u b)) (sym (lawful.deleted-or b v u) ∙ e)))

  -- with nobody deleted
  pub deleted-none : r.deleted 0 ≡ r.inside
  deleted-none =
      fun_ext (λ v. fun_ext (λ u. lawful.deleted-or 0 v u ∙ ap₂ (λ (h : Bool) (x : ℕ). not h && r.inside v x) (has-zero v) (or_zero_r u)))

  deleted-slice : (b v u : ℕ) → r.deleted b v u ≡ true → r.inside v (bit_or u b) ≡ true
  deleted-slice b v u e = and_r (not (has b v)) (r.inside v (bit_or u b)) (sym (lawful.deleted-or b v u) ∙ e)

  deleted-of : (b v u : ℕ) → (v ∈ b → ⊥) → r.inside v (bit_or u b) ≡ true → r.deleted b v u ≡ true
  deleted-of b v u out e = lawful.deleted-or b v u ∙ and_i (ap not (is_false (has b v) (λ h. out (mem h)))) e

  pub deleted-answers : (b : ℕ) → Answers (delete S b) (r.deleted b) n
  deleted-answers b =
      record {
        of-sites = ⊆-trans (minus-⊆ S.sites b) inside-answers.of-sites;
        rule = record {
          grows = λ v a c sub e.
              deleted-of b v c (deleted-stays b v a e)
              (inside-grows.grows v (bit_or a b) (bit_or c b) (or-⊆ (⊆-trans sub (or-⊆-l c b)) (or-⊆-r c b)) (deleted-slice b v a e));
        };
        site = λ v u h e. ∈-minus (subst (λ (x : ℕ). v ∈ x) (sym lawful.all-sites) h) (deleted-stays b v u e);
        slice = λ v u e.
            let x = lawful.slice_inside v (bit_or u b) (deleted-slice b v u e) in (minus x.0 b, (x.0, x.1, refl), or-⊆-minus x.0 b u x.2);
        inside = λ v u p h x sub.
            deleted-of b v u (minus-not-in S.sites h)
            (lawful.inside-slice v (bit_or u b) x.0 x.1 (minus-⊆-or x.0 b u (subst (λ (y : ℕ). y ⊆ u) x.2 sub)));
      }

-- a checked table in memory

module _ {t : List ℕ} {n : ℕ} (table : Table t n) where
  table-well-formed : WellFormed (fbqs_of t n)
  table-well-formed =
      record {
        one-or-more = λ v h. (slice_of t v 0, (0, table.some-slice v (∈-below (ones_lt n) h), refl));
        of-nodes = λ v q h x. subst (λ (y : ℕ). y ⊆ all_below n) (sym x.2) (table.below v x.0 (∈-below (ones_lt n) h) x.1);
        belongs = λ v q h x. subst (λ (y : ℕ). v ∈ y) (sym x.2) (table.owner v x.0 (∈-below (ones_lt n) h) x.1);
      }

  pub table-lawful : LawfulSlices (fbqs_of t n) (slices_of t) n
  table-lawful =
      record {
        all-sites = refl;
        well-formed = table-well-formed;
        slice_inside = λ v u e. let x = inside-ex t v u e in (slice_of t v x.0, (x.0, x.1, refl), x.2);
        inside-slice = λ v u q x sub. inside_of t v x.0 x.1 (subst (λ (y : ℕ). y ⊆ u) x.2 sub);
        deleted-or = deleted-inside t;
        blocked-slice = λ v w q e x z. blocked-meets t v w x.0 e x.1 (ap (λ (y : ℕ). bit_and y (others w v)) (sym x.2) ∙ z);
        unblocked-slice = λ v w e. let x = unblocked-misses t v w e in (slice_of t v x.0, (x.0, x.1, refl), x.2);
      }
