-- The ways out of the sets of a verdict: one law for each.
use Rattle.refusals.specs.Check.{Answer}
use Rattle.std.specs.Prelude.{Ok, Err}
use Prim.Native.Nat.{ℕ, ◌*◌, ◌≤◌}
use mathlib.Core.List.{List, []}
use mathlib.Core.Path.{◌≡◌, refl, sym, ap, ◌∙◌}
use native.Mathlib.Omega.{arith}
use lib.ListN.{drop, take, length}
use Rattle.check_text.proofs.Ways.{image-sound, image-refused}
use Rattle.image.specs.Read.{read, read_into}
use Rattle.image_blocks.proofs.Load.{loads-front}
use Rattle.image_blocks.specs.Image.{loads}
use Rattle.masks.specs.Mask.{all_below, minus}
use Rattle.questions.specs.Answers.{LargestSet, Sharing, largest, shared, intact}
use Rattle.refusals.specs.declared.Refusal.{Refusal}
use Rattle.sets.specs.Groups.{Groups, lists, sites_of}
use Rattle.text.proofs.Written.{written-nothing}
use Rattle.text.specs.Written.{Writes}
use Rattle.verdict_sites.specs.Sites.{sets_spelled, judged_sites, verdict_sites}

-- nothing is written
pub nothing : (room : List ℕ) (at : ℕ) → at ≤ length room → Writes [] room at at room
nothing room at h = record { place = omega arith; memory = sym (written-nothing room at); inside = h }

-- on an image
module _ (image : List ℕ) (F : ℕ) where
  pub sites-refused : (r : Refusal) → read image 4032 ≡ Err r → [] ≡ verdict_sites F image
  unfolding verdict_sites
  sites-refused r h = rw (image-refused image r h) refl

  pub sites-judged : (n : ℕ) (t room : List ℕ) → read image 4032 ≡ Ok n → t ≡ take (63 * n) (read_into (Ok n) image room)
      → judged_sites F (lists t) ≡ verdict_sites F image
  unfolding verdict_sites read_into
  sites-judged n t room h e =
      let s = image-sound image n h in
      ap (λ (x : List ℕ). judged_sites F (lists x)) (e ∙ loads-front n image (drop (63 * n) room) ∙ ap (λ (k : ℕ). loads k image) (sym s.1)) ∙ rw s.0 refl

-- on a table, from what the questions answered, for n sites and those outside F
module _ (t : Groups) (F : ℕ) {n o : ℕ} (e : n ≡ sites_of t) (f : o ≡ minus (all_below n) F) {s : Answer ℕ} {g : LargestSet} {h : Sharing}
    (es : s ≡ intact t F) where
  pub judged-by : g ≡ largest t o → h ≡ shared t → sets_spelled F n s g h ≡ judged_sites F t
  unfolding judged_sites
  judged-by eg eh = rw (es, eg, eh, f, e) refl

pub judged-none : (t : Groups) (F : ℕ) (r : Refusal) → Err r ≡ intact t F → [] ≡ judged_sites F t
unfolding judged_sites
judged-none t F r e = ap (λ (s : Answer ℕ). sets_spelled F (sites_of t) s (largest t (minus (all_below (sites_of t)) F)) (shared t)) e
