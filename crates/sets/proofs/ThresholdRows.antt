-- A table of thresholds that is not refused stands in rows of sets, whose answers are its own.
use Prim.Native.Nat.{ℕ, ◌+◌, ◌*◌, ◌≤◌, ◌<◌}
use mathlib.Core.Bool.{Bool, true, false, ◌&&◌}
use mathlib.Core.List.{List}
use mathlib.Core.Logic.{⊎_elim}
use mathlib.Core.Path.{◌≡◌, sym, ap, ◌∙◌, subst}
use native.Mathlib.Nat.{not-suc-le-zero}
use native.Mathlib.Omega.{arith}
use lib.Dec.{ltb}
use lib.ListN.{length, get_or}
use borrow.Author.Tests.{ltb-true, ltb-false, lt-ltb}
use Rattle.ground.proofs.Logic.{clash, cases}
use Rattle.ground.specs.Pieces.{part}
use Rattle.le.proofs.Laws.{bytes-part}
use Rattle.le.specs.Le.{Bytes}
use Rattle.masks.specs.Mask.{has}
use Rattle.sets.specs.Groups.{thresholds, Checked}
use Rattle.sets.specs.Inner.AsRows.{AsRows}
use Rattle.sets.specs.Inner.Rows.{of_sets, Rows, row_holds, rules_of}
use Rattle.sets.specs.Thresholds.{holds_slice, thresholds_of}
use Rattle.sets.proofs.Forms.{form-same}
use Rattle.sets.proofs.Rows.{sets-inside, lists-inside, rows-form}
use Rattle.sets.proofs.Slices.{inside-missed, no-slice}
use Rattle.sets.proofs.Thresholds.{thresholds-form}
use Rattle.site_block.specs.Block.{count_field}
use Rattle.table.specs.Table.{site_of, count_of}
use Rattle.threshold_block.specs.Block.{sets_in}
use Rattle.threshold_image.proofs.Exact.{thresholds-checked}
use Rattle.threshold_image.proofs.Rows.{length-rows, row_of}
use Rattle.threshold_image.specs.Image.{image_sites, Thresholds}
use Rattle.threshold_image.specs.Inner.{rows_of}
use Rattle.threshold_row.proofs.Load.{row_count}
use Rattle.threshold_row.proofs.Loaded.{loaded, loaded-met}
use Rattle.threshold_row.specs.Inner.Row.{sets_of, sets_row}
use Rattle.threshold_sets.proofs.Alike.{Agree, agree-sym, sound-alike}
use Rattle.threshold_sets.specs.Check.{SoundSets}
use Rattle.threshold_sets.specs.Met.{root_met}

module _ {image : List ℕ} {n : ℕ} (bytes : Bytes image) (H : Thresholds image n) where
  abbrev here : ℕ → List ℕ
  here v = part 512 v image

  bytes-block : (v : ℕ) → Bytes (here v)
  bytes-block v = bytes-part 512 (512 * v) image bytes

  agree : (v : ℕ) → Agree 49 (sets_of (sets_row (here v))) (sets_in (here v))
  agree v = loaded (here v) (bytes-block v)

  -- the row of a site is that of its block
  site-row : (v : ℕ) → v < n → site_of (rows_of n image) v ≡ sets_row (here v)
  site-row v l = row_of n image v l

  first-number : (v : ℕ) → v < n → count_of (rows_of n image) v ≡ 64 + count_field (here v)
  first-number v l = ap (λ (m : List ℕ). get_or m 0 0) (site-row v l) ∙ row_count (here v)

  of-sets : (v : ℕ) → v < n → of_sets (rows_of n image) v ≡ true
  of-sets v l = lt-ltb 62 (count_of (rows_of n image) v) (let e = first-number v l in omega arith)

  pub threshold-rows : Rows (rows_of n image) n
  threshold-rows =
      record {
        long = length-rows n image;
        some-site = H.some-site;
        few-sites = H.few-sites;
        listed = λ v l o. absurd (clash (of-sets v l) o);
        sets = λ v l o.
            subst (λ (m : List ℕ). SoundSets n (sets_of m)) (sym (site-row v l)) (sound-alike (agree-sym (agree v)) (H.sets v l).few-sets (H.sets v l));
      }

  same-inside : (v u : ℕ) → (rules_of (rows_of n image)).inside v u ≡ (thresholds_of image n).inside v u
  unfolding thresholds_of holds_slice
  same-inside v u =
      ⊎_elim
      (λ e. let l = ltb-true v n e in
      sets-inside (rows_of n image) v (of-sets v l) u
      ∙ ap (λ (x : Bool). has u v && x) (ap (λ (m : List ℕ). root_met (sets_of m) u) (site-row v l) ∙ loaded-met (here v) (bytes-block v) (H.sets v l).few-sets u)
      ∙ sym (ap (λ (x : Bool). x && (has u v && root_met (sets_in (here v)) u)) e))
      (λ e. let z = no-slice threshold-rows v (ltb-false v n e) in
      lists-inside (rows_of n image) v (ap (ltb 62) z) u
      ∙ inside-missed (rows_of n image) v u (λ i k. absurd (not-suc-le-zero (subst (λ (x : ℕ). i < x) z k)))
      ∙ sym (ap (λ (x : Bool). x && (has u v && root_met (sets_in (here v)) u)) e))
      (cases (ltb v n))

  pub threshold-rules : rules_of (rows_of n image) ≡ thresholds_of image n
  threshold-rules = form-same (rows-form threshold-rows) (thresholds-form H) same-inside

-- of one that is not refused
pub as-threshold-rows : (image : List ℕ) → Bytes image → Checked (thresholds image) → AsRows (thresholds image) (rows_of (image_sites (length image)) image)
as-threshold-rows image bytes c =
    let H = thresholds-checked image c in
    record { checked = c; right = threshold-rows bytes H; same-rules = threshold-rules bytes H }
