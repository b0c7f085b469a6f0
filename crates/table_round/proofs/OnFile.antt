-- What a text makes is taken on file; what is shown of a table on file makes the same file, since what is read is written as it was.
use Rattle.std.specs.Prelude.{Ok}
use Prim.Native.Nat.{ℕ, ◌+◌, ◌-◌, ◌*◌, ◌/◌, ◌%◌, ◌^◌, ◌≤◌, ◌<◌}
use mathlib.Core.List.{List, ◌++◌}
use mathlib.Core.Logic.{⊎_elim}
use mathlib.Core.Path.{◌≡◌, sym, ap, ◌∙◌}
use native.Mathlib.Nat.{lt_of_lt_of_le, pow-le-pow_right}
use native.Mathlib.Omega.{arith}
use lib.Dec.{ltb}
use lib.ListN.{length, get_or, take, drop, replicate, length-replicate, get_or-eq_default}
use borrow.Author.Tests.{ltb-true, ltb-false}
use Rattle.ground.proofs.Logic.{cases}
use Rattle.ground.proofs.Numbers.{same?}
use Rattle.check_text.proofs.Ways.{image-sound}
use Rattle.check_text.proofs.Ways.{reads}
use Rattle.check_text.specs.Table.{sites_on, image_check, rows_on}
use Rattle.image.proofs.ReadLaws.{blocks-shape, read_taken, loads-sound}
use Rattle.image.proofs.RoundTrip.{read-then-write, write-then-read}
use Rattle.image.specs.Read.{read, read_into}
use Rattle.image.specs.RoundTrip.{Words}
use Rattle.image_blocks.proofs.Load.{length-loads, loads-front}
use Rattle.image_blocks.specs.Image.{loads}
use Rattle.image_write.proofs.WriteLaws.{write-all}
use Rattle.image_write.specs.Write.{write, write_into}
use Rattle.table.proofs.Exact.{checked-sites, sound-sites, sound}
use Rattle.table.proofs.Table.{count_at, slice_at, slice-lt}
use Rattle.table.specs.Table.{Table}
use Rattle.table_made.specs.Made.{table_in}
use Rattle.table_round.proofs.Round.{show-then-make}
use Rattle.table_round.specs.OnFile.{MadeThenChecked, ShowThenWrite}
use Rattle.table_shown.specs.Show.{show}
use Rattle.table_sound.proofs.Sound.{made-sound}

-- a sound table holds 64-bit numbers
module _ (t : List ℕ) (n : ℕ) (s : Table t n) where
  here : (i : ℕ) → i < 63 * n → get_or t i 0 < 2 ^ 64
  here i h =
      let v : ℕ = i / 63 in
      ⊎_elim
      (λ (e : i % 63 ≡ 0). let f : i ≡ 63 * v = omega arith in
      let c = s.few-slices v (omega arith) in
      rw (f, ← count_at t v) (omega arith))
      (λ (e : i % 63 ≡ 0 → ⊥). let j : ℕ = i % 63 - 1 in
      let f : i ≡ 63 * v + 1 + j = omega arith in
      rw (f, ← slice_at t v j (omega arith)) (lt_of_lt_of_le (slice-lt s v j) (pow-le-pow_right {n = 2} (omega arith) s.few-sites)))
      (same? (i % 63) 0)

  words : Words t
  words i =
      ⊎_elim (λ e. here i (ltb-true i (63 * n) e))
      (λ e. let l = ltb-false i (63 * n) e in
      let k : length t ≤ i = omega (arith, s.long) in
      rw (get_or-eq_default t 0 k) (omega arith)) (cases (ltb i (63 * n)))

pub made-then-checked : MadeThenChecked
made-then-checked text out n e o =
    let t : List ℕ = table_in text in
    let s = made-sound text n e in
    let w : write t (length out) ≡ Ok n = write-all t (length out) n s.long s.some-site s.few-sites o (sound-sites s) in
    let f = s.few-sites in
    let z : List ℕ = replicate 4032 0 in
    let k = length-replicate {A = ℕ} 4032 0 in
    let r = (write-then-read t out z n (words t n s) w (rw k (omega arith))).0 in
    (w, (image-sound _ n (sym (ap (read _) k) ∙ r)).0)

module _ (image : List ℕ) (c : image_check image ≡ Ok tt) where
  same : table_in (show (rows_on image)) ≡ rows_on image
  same =
      let n : ℕ = sites_on image in
      let r = read_taken image 4032 n (reads image c) in
      let s = blocks-shape (length image) r.0 in
      (show-then-make (loads n image) (sound (checked-sites (loads n image) n (length-loads n image) s.1 s.2 (loads-sound n image r.2)))).1

  long : length image ≡ 512 * sites_on image
  long = (blocks-shape (length image) (read_taken image 4032 (sites_on image) (reads image c)).0).0

pub show-then-write : ShowThenWrite
unfolding read_into
show-then-write image out bytes c room =
    let n : ℕ = sites_on image in
    let z : List ℕ = replicate 4032 0 in
    let k = long image c in
    let h = ap (read image) (length-replicate {A = ℕ} 4032 0) ∙ reads image c in
    let w = read-then-write image z out n bytes h (omega arith) in
    let e : table_in (show (rows_on image)) ≡ take (63 * n) (loads n image ++ drop (63 * n) z) =
    same image c ∙ sym (loads-front n image (drop (63 * n) z)) in (
      ap (λ (t : List ℕ). write t (length out)) e ∙ w.0,
      ap (λ (t : List ℕ). write_into (Ok n) t out) e ∙ w.1 ∙ ap (λ (j : ℕ). image ++ drop j out) (sym k),
    )
