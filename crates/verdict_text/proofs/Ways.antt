-- The ways out of a verdict: one law for each.
use Rattle.std.specs.Prelude.{Ok, Err}
use Prim.Native.Nat.{ℕ, ◌*◌, ◌-◌, ◌≤◌, ◌<◌}
use mathlib.Core.List.{List}
use mathlib.Core.Path.{◌≡◌, refl, sym, ap, ap₂, ◌∙◌}
use native.Mathlib.Omega.{arith}
use lib.ListN.{length, drop, take, length-drop}
use lib.Seq.{take_all}
use borrow.Author.Tests.{lt-ltb, le-ltb}
use Rattle.image_blocks.proofs.Load.{loads-front}
use Rattle.image_blocks.specs.Image.{loads}
use Rattle.image.specs.Read.{read, read_into}
use Rattle.le.specs.Le.{field}
use Rattle.refusal_lines.specs.Refused.{refused}
use Rattle.refusals.specs.declared.Refusal.{Refusal}
use Rattle.refusals.specs.declared.Refusal.TheVariants.{Length}
use Rattle.check_text.proofs.Ways.{image-sound, image-refused}
use Rattle.judged_text.specs.Judged.{judged_text}
use Rattle.sets.specs.Groups.{lists}
use Rattle.verdict_text.specs.Verdict.{verdict_text, input_text}

-- the verdict on an image
module _ (image : List ℕ) (F : ℕ) where
  pub verdict-refused : (r : Refusal) → read image 4032 ≡ Err r → refused r ≡ verdict_text F image
  unfolding verdict_text
  verdict-refused r h = rw (image-refused image r h) refl

  pub verdict-judged : (n : ℕ) (t room : List ℕ) → read image 4032 ≡ Ok n → t ≡ take (63 * n) (read_into (Ok n) image room)
      → judged_text F (lists t) ≡ verdict_text F image
  unfolding verdict_text read_into
  verdict-judged n t room h e =
      let s = image-sound image n h in
      ap (λ (x : List ℕ). judged_text F (lists x)) (e ∙ loads-front n image (drop (63 * n) room) ∙ ap (λ (k : ℕ). loads k image) (sym s.1)) ∙ rw s.0 refl

-- on what the verdict program is given
module _ (input : List ℕ) where
  pub too_short : length input < 8 → refused Length ≡ input_text input
  unfolding input_text
  too_short h = rw (lt-ltb (length input) 8 h) refl

  pub too_long : 8 ≤ length input → 32776 < length input → refused Length ≡ input_text input
  unfolding input_text
  too_long g h = rw (le-ltb (length input) 8 g, lt-ltb 32776 (length input) h) refl

  whole : 8 ≤ length input → length input ≤ 32776 → verdict_text (field 8 input 0) (drop 8 input) ≡ input_text input
  unfolding input_text
  whole g h = rw (le-ltb (length input) 8 g, le-ltb 32776 (length input) h) refl

  pub input-taken : (F : ℕ) (image : List ℕ) → 8 ≤ length input → length input ≤ 32776 → F ≡ field 8 input 0
      → image ≡ take (length input - 8) (drop 8 input) → verdict_text F image ≡ input_text input
  input-taken F image g h ef ei =
      ap₂ verdict_text ef (ei ∙ take_all (length input - 8) (drop 8 input) (omega (arith, length-drop 8 input))) ∙ whole g h
