-- The ways out of what is shown of an image: one law for each.
use Rattle.std.specs.Prelude.{Ok, Err}
use Prim.Native.Nat.{ℕ, ◌*◌}
use mathlib.Core.List.{List}
use mathlib.Core.Path.{◌≡◌, refl, sym, ap, ◌∙◌}
use lib.ListN.{take, drop}
use lib.Seq.{take_at}
use Rattle.check_text.proofs.Ways.{image-sound, image-refused}
use Rattle.image.specs.Read.{read, read_into}
use Rattle.image_blocks.specs.Image.{loads}
use Rattle.image_blocks.proofs.Load.{length-loads}
use Rattle.refusal_lines.specs.Refused.{explained}
use Rattle.refusals.specs.declared.Refusal.{Refusal}
use Rattle.table_shown.specs.Show.{show}
use Rattle.table_text.specs.ShowText.{show_text}

module _ (image : List ℕ) where
  pub shown-refused : (r : Refusal) → read image 4032 ≡ Err r → explained r ≡ show_text image
  unfolding show_text
  shown-refused r h = rw (image-refused image r h) refl

  module _ (n : ℕ) (h : read image 4032 ≡ Ok n) where
    pub in-front : (room table : List ℕ) → table ≡ read_into (Ok n) image room → take (63 * n) table ≡ loads n image
    unfolding read_into
    in-front room table e = ap (take (63 * n)) e ∙ take_at (loads n image) (drop (63 * n) room) (63 * n) (length-loads n image)

    pub shown-sound : show (loads n image) ≡ show_text image
    unfolding show_text
    shown-sound = let s = image-sound image n h in rw s.0 (ap (λ (k : ℕ). show (loads k image)) (sym s.1))
