-- A checked table of whichever form is lawful; and one in memory stands in rows, whose answers are its own.
use Rattle.std.specs.Prelude.{Ok, Err}
use Prim.Native.Nat.{ℕ, ◌≤◌, ◌<◌}
use mathlib.Core.Bool.{true, false}
use mathlib.Core.List.{List}
use mathlib.Core.Logic.{◌↔◌}
use mathlib.Core.Path.{◌≡◌, refl, ap}
use lib.ListN.{length}
use borrow.Author.Tests.{not-false, ltb-true, le-ltb}
use Rattle.ground.proofs.Logic.{clash, is_false}
use Rattle.masks.proofs.Laws.Subsets.{within-⊆}
use Rattle.masks.specs.Mask.{within, all_below, ◌⊆◌}
use Rattle.refusals.proofs.First.{or_else-sound, kept}
use Rattle.refusals.specs.declared.Refusal.TheVariants.{Set}
use Rattle.sets.specs.Decides.{TableIsFbqs, TableDecides, TablePromises}
use Rattle.sets.specs.Groups.{Groups, lists, thresholds, sites_of, fbqs_in, slices_in, groups_check, SoundTable, Checked, outsider, set_check, questions}
use Rattle.sets.specs.Promises.{questions_of}
use Rattle.sets.specs.Slices.{slices_of}
use Rattle.sets.specs.Forms.{LawfulSlices}
use Rattle.sets.specs.Inner.AsRows.{AsRows}
use Rattle.sets.specs.Inner.Rows.{of_sets, Rows, rules_of, row_questions}
use Rattle.sets.proofs.Decides.{decides}
use Rattle.sets.proofs.Forms.{same_tests}
use Rattle.sets.proofs.Lawful.{table-lawful}
use Rattle.sets.proofs.Promises.{promises}
use Rattle.sets.proofs.Rows.{lists-inside, lists-deleted, lists-blocked}
use Rattle.sets.proofs.Slices.{row-site}
use Rattle.sets.proofs.Thresholds.{thresholds-lawful, holds-site}
use Rattle.table.proofs.Exact.{checked, exact}
use Rattle.table.specs.Table.{sites, count_of, Table}
use Rattle.threshold_image.proofs.Exact.{thresholds-checked, thresholds-exact}

pub lawful : (t : Groups) → Checked t → LawfulSlices (fbqs_in t) (slices_in t) (sites_of t)
lawful (lists t) c = table-lawful (checked t c)
lawful (thresholds image) c = thresholds-lawful (thresholds-checked image c)

-- the check takes exactly the sound tables
pub table-exact : (t : Groups) → Checked t ↔ SoundTable t
table-exact (lists t) = exact t
table-exact (thresholds image) = thresholds-exact image

-- its sites are those below n, checked or not
pub sites_in : (t : Groups) → (fbqs_in t).sites ≡ all_below (sites_of t)
sites_in (lists t) = refl
sites_in (thresholds image) = refl

-- and a checked table has no more than 64
pub few-in : (t : Groups) → Checked t → sites_of t ≤ 64
few-in (lists t) c = (checked t c).few-sites
few-in (thresholds image) c = (thresholds-checked image c).few-sites

pub table-is-fbqs : TableIsFbqs
table-is-fbqs t c = (lawful t c).well-formed

pub table-decides : TableDecides
table-decides t c = decides (lawful t c)

pub table-promises : TablePromises
table-promises t c = promises (lawful t c)

-- rows of lists

pub table-rows : {t : List ℕ} {n : ℕ} → Table t n → Rows t n
table-rows {t} s =
    record {
      long = s.long;
      some-site = s.some-site;
      few-sites = s.few-sites;
      listed = λ v l o. record {
        some-slice = s.some-slice v l;
        few-slices = s.few-slices v l;
        owner = λ i. s.owner v i l;
        below = λ i. s.below v i l;
        ascend = λ i. s.ascend v i l;
      };
      sets = λ v l o. absurd (clash o (le-ltb 62 (count_of t v) (s.few-slices v l)));
    }

module _ (t : List ℕ) (c : Checked (lists t)) where
  pub checked-rows : Rows t (sites (length t))
  checked-rows = table-rows (checked t c)

  -- no row is one of sets
  all_listed : (v : ℕ) → of_sets t v ≡ false
  all_listed v =
      is_false (of_sets t v)
      (λ s. clash s (le-ltb 62 (count_of t v) ((checked t c).few-slices v (row-site checked-rows v (ltb-true 62 (count_of t v) s)))))

  pub same-rules : rules_of t ≡ slices_in (lists t)
  same-rules =
      same_tests (rules_of t) (slices_of t) (λ v. lists-inside t v (all_listed v)) (λ b v. lists-deleted t v (all_listed v) b) (λ v. lists-blocked t v (all_listed v))

  pub as_rows : AsRows (lists t) t
  as_rows = record { checked = c; right = checked-rows; same-rules = same-rules }

-- who has a slice is a site
pub slice-site : (t : Groups) → Checked t → (v q : ℕ) → (fbqs_in t).Slice v q → v < sites_of t
slice-site (lists t) c v q x = row-site (checked-rows t c) v x.1
slice-site (thresholds image) c v q x = holds-site image (sites_of (thresholds image)) v q x.0

-- by its rows a table is asked its own questions
pub same-questions : {t : Groups} {rows : List ℕ} → AsRows t rows → row_questions rows (sites_of t) ≡ questions t
unfolding row_questions
same-questions {t} a = ap (λ r. questions_of r (sites_of t)) a.same-rules

-- a set that is taken: the table is, and the set is of its sites

module _ (t : Groups) (set : ℕ) (e : set_check t set ≡ Ok tt) where
  pub set-checked : Checked t
  unfolding set_check
  set-checked = (or_else-sound (groups_check t) _ e).0

  pub set-of-sites : set ⊆ all_below (sites_of t)
  unfolding set_check outsider
  set-of-sites =
      within-⊆ set (all_below (sites_of t)) (not-false (within set (all_below (sites_of t))) (kept _ Set (or_else-sound (groups_check t) _ e).1))

-- a set of n sites, or not

module _ (n set : ℕ) where
  pub no-outsider : within set (all_below n) ≡ true → outsider n set ≡ Ok tt
  unfolding outsider
  no-outsider e = rw e refl

  pub some-outsider : within set (all_below n) ≡ false → outsider n set ≡ Err Set
  unfolding outsider
  some-outsider e = rw e refl
