-- What the reader's answer says of an image, and the ways out of its check: one law for each.
use Rattle.refusals.specs.Check.{Check}
use Rattle.std.specs.Prelude.{Ok, Err}
use Prim.Native.Nat.{ℕ, ◌/◌, ◌≤◌}
use mathlib.Core.List.{List}
use mathlib.Core.Path.{◌≡◌, refl, sym}
use native.Mathlib.Omega.{arith}
use lib.ListN.{length}
use Rattle.image.proofs.ReadLaws.{read_taken, blocks-shape, loads-table}
use Rattle.image.specs.Read.{read, read_check, to_reading}
use Rattle.image_blocks.proofs.Load.{length-loads}
use Rattle.image_blocks.specs.Image.{loads}
use Rattle.lines.specs.Lines.{line}
use Rattle.refusal_lines.specs.Refused.{explained}
use Rattle.refusals.specs.declared.Refusal.{Refusal}
use Rattle.check_text.specs.Table.{sites_on, image_check, check_text}
use Rattle.sets.proofs.Groups.{table-exact}
use Rattle.sets.specs.Groups.{lists, sites_of, Checked}
use Rattle.text.specs.Text.{ascii, decimal}

-- what the reader's answer says of the check
taken : (k n : ℕ) (s : Check) → to_reading k s ≡ Ok n → (s ≡ Ok tt) × (k ≡ n)
taken k n (Ok _) h = (refl, cc)
taken k n (Err r) h = let z : ◌≡◌ {A = ℕ} 0 1 = cc in absurd (omega arith)

stopped : (k : ℕ) (r : Refusal) (s : Check) → to_reading k s ≡ Err r → s ≡ Err r
stopped k r (Ok _) h = let z : ◌≡◌ {A = ℕ} 0 1 = cc in absurd (omega arith)
stopped k r (Err x) h = cc

-- a sound image is read, with as many sites as it has blocks
pub reads : (image : List ℕ) → image_check image ≡ Ok tt → read image 4032 ≡ Ok (sites_on image)
unfolding read image_check
reads image e = rw e refl

module _ (image : List ℕ) where
  pub image-sound : (n : ℕ) → read image 4032 ≡ Ok n → (image_check image ≡ Ok tt) × (sites_on image ≡ n)
  unfolding read image_check
  image-sound n h = taken (length image / 512) n (read_check image 4032) h

  pub image-refused : (r : Refusal) → read image 4032 ≡ Err r → image_check image ≡ Err r
  unfolding read image_check
  image-refused r h = stopped (length image / 512) r (read_check image 4032) h

  pub few : (n : ℕ) → read image 4032 ≡ Ok n → n ≤ 64
  few n h = let t = read_taken image 4032 n h in omega (arith, (blocks-shape (length image) t.0).2, t.1)

  -- what is read is a table of so many sites, and no call refuses it
  pub loaded-sites : (n : ℕ) → sites_of (lists (loads n image)) ≡ n
  loaded-sites n = omega (arith, length-loads n image)

  pub loaded : (n : ℕ) → read image 4032 ≡ Ok n → Checked (lists (loads n image))
  loaded n h =
      let t = read_taken image 4032 n h in
      let b = blocks-shape (length image) t.0 in
      (table-exact (lists (loads n image))).1
      (rw (loaded-sites n) (loads-table n image (rw (sym t.1) b.1) (rw (sym t.1) b.2) t.2))

  -- the check of an image
  pub check_sound : (n : ℕ) → read image 4032 ≡ Ok n → line (ascii "sound ") (decimal n) ≡ check_text image
  unfolding check_text
  check_sound n h = let s = image-sound n h in rw (s.0, s.1) refl

  pub check-refused : (r : Refusal) → read image 4032 ≡ Err r → explained r ≡ check_text image
  unfolding check_text
  check-refused r h = rw (image-refused r h) refl
