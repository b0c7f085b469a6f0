-- Laws of rows: what the tests say of a row that lists its slices, and of one that holds sets; rows are a form, so their tests are lawful and keep the promises.
use Prim.Native.Nat.{ℕ, ◌<◌}
use mathlib.Core.Bool.{true, false, ◌&&◌, not}
use mathlib.Core.List.{List}
use mathlib.Core.Logic.{⊎_elim}
use mathlib.Core.Path.{◌≡◌, refl, sym, ap, ◌∙◌}
use native.Mathlib.Omega.{arith}
use lib.Bits.{bit_and, bit_or}
use lib.Dec.{ltb}
use lib.ListN.{length}
use lib.Pow.{ones_lt}
use borrow.Author.Tests.{ltb-true, le-ltb}
use Rattle.ground.proofs.Logic.{and_l, and_r, and_i, cases, is_false}
use Rattle.masks.proofs.Laws.AllBelow.{in_all}
use Rattle.masks.proofs.Laws.Apart.{⊆-minus, ⊆-minus-apart}
use Rattle.masks.proofs.Laws.Subsets.{mem, ⊆-trans, ∈-below, ∈-and}
use Rattle.masks.specs.Mask.{has, within, minus, others, all_below, ◌∈◌, ◌⊆◌}
use Rattle.sets.specs.Forms.{Form}
use Rattle.sets.specs.Promises.{Promises, questions_of}
use Rattle.sets.specs.Quorum.{largest}
use Rattle.sets.specs.Forms.{closure, LawfulSlices}
use Rattle.sets.specs.Inner.Rows.{of_sets, ListedRow, Rows, row_holds, rules_of, row_questions}
use Rattle.sets.specs.Slices.{slices_of}
use Rattle.sets.proofs.Forms.{form-lawful}
use Rattle.sets.proofs.Promises.{promises}
use Rattle.sets.proofs.Slices.{inside_of, inside-ex, inside_found, inside-missed, deleted-inside, blocked-meets, unblocked-misses, row, row-site}
use Rattle.table.specs.Table.{sites, site_of, count_of, slice_of}
use Rattle.threshold_row.specs.Inner.Row.{sets_of}
use Rattle.threshold_sets.proofs.Grows.{met-grows}
use Rattle.threshold_sets.proofs.Present.{met-of-sites}
use Rattle.threshold_sets.proofs.Whole.{all_meet}
use Rattle.threshold_sets.specs.Check.{SoundSets}
use Rattle.threshold_sets.specs.Met.{root_met}

-- what is asked of a row, by its form

module _ (t : List ℕ) (v : ℕ) where
  pub sets-inside : of_sets t v ≡ true → (u : ℕ) → (rules_of t).inside v u ≡ row_holds t v u
  unfolding rules_of
  sets-inside s u = rw s refl

  pub sets-blocked : of_sets t v ≡ true → (w : ℕ) → (rules_of t).blocked v w ≡ not (row_holds t v (minus (all_below (sites (length t))) (others w v)))
  unfolding rules_of
  sets-blocked s w = rw s refl

  pub lists-inside : of_sets t v ≡ false → (u : ℕ) → (rules_of t).inside v u ≡ (slices_of t).inside v u
  unfolding rules_of
  lists-inside s u = rw s refl

  pub lists-blocked : of_sets t v ≡ false → (w : ℕ) → (rules_of t).blocked v w ≡ (slices_of t).blocked v w
  unfolding rules_of
  lists-blocked s w = rw s refl

  pub lists-deleted : of_sets t v ≡ false → (b u : ℕ) → (rules_of t).deleted b v u ≡ (slices_of t).deleted b v u
  unfolding rules_of
  lists-deleted s b u = rw s refl

-- a row that lists its slices

module _ {t : List ℕ} {n v : ℕ} (listed : ListedRow t n v) where
  pub listed-so : of_sets t v ≡ false
  listed-so = le-ltb 62 (count_of t v) listed.few-slices

  pub listed-blocked : (w : ℕ) → (rules_of t).blocked v w ≡ (slices_of t).blocked v w
  listed-blocked = lists-blocked t v listed-so

  -- a slice is found inside, or none is
  pub row-found : (u i : ℕ) → i < count_of t v → within (slice_of t v i) u ≡ true → (rules_of t).inside v u ≡ true
  row-found u i l h = lists-inside t v listed-so u ∙ inside_found t v u i l h

  pub row-missed : (u : ℕ) → ((i : ℕ) → i < count_of t v → within (slice_of t v i) u ≡ false) → (rules_of t).inside v u ≡ false
  row-missed u f = lists-inside t v listed-so u ∙ inside-missed t v u f

-- rows of both forms

module _ {t : List ℕ} {n : ℕ} (rows : Rows t n) where
  -- their number
  pub rows-sites : sites (length t) ≡ n
  rows-sites = let e = rows.long in omega arith

  -- who has a row of sets is a site, and its sets are sound
  pub sets-site : (v : ℕ) → of_sets t v ≡ true → v < n
  sets-site v s = row-site rows v (ltb-true 62 (count_of t v) s)

  sets-of : (v : ℕ) → of_sets t v ≡ true → SoundSets n (sets_of (site_of t v))
  sets-of v s = rows.sets v (sets-site v s) s

  -- lists

  inside-and : (v : ℕ) → of_sets t v ≡ false → (u : ℕ) → (slices_of t).inside v u ≡ true → (slices_of t).inside v (bit_and u (all_below n)) ≡ true
  inside-and v s u e =
      let x = inside-ex t v u e in
      inside_of t v x.0 x.1 (record { each = λ z h. ∈-and (x.2.each z h) (((row rows v s x.1).below x.0 x.1).each z h) })

  blocked-by-rest : (v : ℕ) → of_sets t v ≡ false → (w : ℕ) → (slices_of t).blocked v w ≡ not ((slices_of t).inside v (minus (all_below n) (others w v)))
  blocked-by-rest v s w =
      ⊎_elim
      (λ e. e ∙ sym (ap not (is_false ((slices_of t).inside v rest)
      (λ i. let x = inside-ex t v rest i in blocked-meets t v w x.0 e x.1 (⊆-minus-apart (all_below n) (others w v) x.2)))))
      (λ e. e ∙ sym (ap not (let x = unblocked-misses t v w e in inside_of t v x.0 x.1 (⊆-minus (others w v) ((row rows v s x.1).below x.0 x.1) x.2))))
      (cases ((slices_of t).blocked v w))
    where
      rest : ℕ
      rest = minus (all_below n) (others w v)

  list-grows : (v : ℕ) → of_sets t v ≡ false → (a b : ℕ) → a ⊆ b → (rules_of t).inside v a ≡ true → (rules_of t).inside v b ≡ true
  list-grows v s a b sub e =
      let x = inside-ex t v a (sym (lists-inside t v s a) ∙ e) in lists-inside t v s b ∙ inside_of t v x.0 x.1 (⊆-trans x.2 sub)

  list-own : (v : ℕ) → of_sets t v ≡ false → (u : ℕ) → (rules_of t).inside v u ≡ true → v ∈ u
  list-own v s u e = let x = inside-ex t v u (sym (lists-inside t v s u) ∙ e) in x.2.each v ((row rows v s x.1).owner x.0 x.1)

  list_all : (v : ℕ) → of_sets t v ≡ false → v < n → (rules_of t).inside v (all_below n) ≡ true
  list_all v s h =
      let l = rows.listed v h s in lists-inside t v s (all_below n) ∙ inside_of t v 0 l.some-slice (l.below 0 l.some-slice)

  -- sets

  sets-grows : (v : ℕ) → of_sets t v ≡ true → (a b : ℕ) → a ⊆ b → (rules_of t).inside v a ≡ true → (rules_of t).inside v b ≡ true
  sets-grows v s a b sub e =
      let h = sym (sets-inside t v s a) ∙ e in
      sets-inside t v s b ∙ and_i (sub.each v (mem (and_l (has a v) (root_met (sets_of (site_of t v)) a) h))).holds (met-grows (sets_of (site_of t v)) sub (and_r (has a v) (root_met (sets_of (site_of t v)) a) h))

  sets-own : (v : ℕ) → of_sets t v ≡ true → (u : ℕ) → (rules_of t).inside v u ≡ true → v ∈ u
  sets-own v s u e = mem (and_l _ _ (sym (sets-inside t v s u) ∙ e))

  sets-and : (v : ℕ) → of_sets t v ≡ true → (u : ℕ) → (rules_of t).inside v u ≡ true → (rules_of t).inside v (bit_and u (all_below n)) ≡ true
  sets-and v s u e =
      let h = sym (sets-inside t v s u) ∙ e in
      sets-inside t v s (bit_and u (all_below n))
      ∙ and_i (∈-and (mem (and_l (has u v) (root_met (sets_of (site_of t v)) u) h)) (in_all (sets-site v s))).holds
      (met-of-sites (sets_of (site_of t v)) (sets-of v s).some-set n (sets-of v s).below u ∙ and_r (has u v) (root_met (sets_of (site_of t v)) u) h)

  sets-all : (v : ℕ) → of_sets t v ≡ true → (rules_of t).inside v (all_below n) ≡ true
  sets-all v s =
      sets-inside t v s (all_below n) ∙ and_i (in_all (sets-site v s)).holds (all_meet (sets-of v s) (all_below n) (sets-of v s).below)

  -- whichever

  pub row-grows : (v a b : ℕ) → a ⊆ b → (rules_of t).inside v a ≡ true → (rules_of t).inside v b ≡ true
  row-grows v a b sub e = ⊎_elim (λ s. sets-grows v s a b sub e) (λ s. list-grows v s a b sub e) (cases (of_sets t v))

  pub row-all : (v : ℕ) → v < n → (rules_of t).inside v (all_below n) ≡ true
  row-all v h = ⊎_elim (sets-all v) (λ s. list_all v s h) (cases (of_sets t v))

  row-deleted : (b v u : ℕ) → (rules_of t).deleted b v u ≡ not (has b v) && (rules_of t).inside v (bit_or u b)
  unfolding rules_of
  row-deleted b v u = ⊎_elim (λ s. rw s refl) (λ s. rw s (deleted-inside t b v u)) (cases (of_sets t v))

  row-blocked : (v w : ℕ) → (rules_of t).blocked v w ≡ not ((rules_of t).inside v (minus (all_below n) (others w v)))
  row-blocked v w =
      ⊎_elim
      (λ s. sets-blocked t v s w ∙ ap (λ (k : ℕ). not (row_holds t v (minus (all_below k) (others w v)))) rows-sites
      ∙ ap not (sym (sets-inside t v s (minus (all_below n) (others w v)))))
      (λ s. lists-blocked t v s w ∙ blocked-by-rest v s w ∙ ap not (sym (lists-inside t v s (minus (all_below n) (others w v)))))
      (cases (of_sets t v))

  pub rows-form : Form (rules_of t) n
  rows-form =
      record {
        grows = row-grows;
        own = λ v u e. ⊎_elim (λ s. sets-own v s u e) (λ s. list-own v s u e) (cases (of_sets t v));
        of-sites = λ v u e.
            ⊎_elim (λ s. sets-and v s u e)
            (λ s. lists-inside t v s (bit_and u (all_below n)) ∙ inside-and v s u (sym (lists-inside t v s u) ∙ e)) (cases (of_sets t v));
        all-sites = λ v h. row-all v (∈-below (ones_lt n) h);
        deleted-or = row-deleted;
        blocked-rest = row-blocked;
      }

  pub rows-lawful : LawfulSlices (closure (rules_of t) n) (rules_of t) n
  rows-lawful = form-lawful (rules_of t) n rows-form

  pub rows-promises : Promises (λ v. closure (rules_of t) n) (row_questions t n)
  unfolding row_questions
  rows-promises = promises rows-lawful

-- what the code asks is what the questions say

module _ (t : List ℕ) (n : ℕ) where
  pub quorum-asked : (v w : ℕ) → has (largest (rules_of t).inside n w) v ≡ (row_questions t n).in_quorum v w
  unfolding row_questions questions_of
  quorum-asked v w = refl

  pub blocked-asked : (v w : ℕ) → (rules_of t).blocked v w ≡ (row_questions t n).blocked v w
  unfolding row_questions questions_of
  blocked-asked v w = refl

  pub slice-asked : (v u w : ℕ) → (rules_of t).inside u w ≡ (row_questions t n).has_slice v u w
  unfolding row_questions questions_of
  slice-asked v u w = refl
