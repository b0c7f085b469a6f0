-- Tables survive reading and writing unchanged, either one first.
use Rattle.std.specs.Prelude.{Ok}
use Prim.Native.Nat.{ℕ, ◌+◌, ◌*◌, ◌≤◌, ◌<◌}
use mathlib.Core.List.{List, ◌++◌}
use mathlib.Core.Path.{◌≡◌, ap, ◌∙◌}
use native.Mathlib.Nat.{le_refl, lt_of_le_of_lt}
use native.Mathlib.Omega.{arith}
use lib.ListN.{length, drop}
use lib.Seq.{take_all}
use Rattle.ground.proofs.Pieces.{length_part, cat-ext, cat-parts, part-le}
use Rattle.ground.specs.Pieces.{part}
use Rattle.image_blocks.specs.Image.{blocks_check, loads, stores}
use Rattle.image.specs.Read.{read, read_into}
use Rattle.image.specs.RoundTrip.{Words, ReadThenWrite, WriteThenRead}
use Rattle.image_write.specs.Write.{write, write_into}
use Rattle.image_blocks.proofs.Load.{length-loads, loads-front, loads-site}
use Rattle.image.proofs.ReadLaws.{blocks-shape, read_taken, loads-sound, read_all}
use Rattle.image_blocks.proofs.Store.{stores-block, length-stores, stores-front}
use Rattle.image_write.proofs.WriteLaws.{write-taken, write-all}
use Rattle.le.proofs.Laws.{bytes-part}
use Rattle.le.specs.Le.{Bytes}
use Rattle.refusals.proofs.First.{first-all, first-sound}
use Rattle.site_block.proofs.Block.{block-sound}
use Rattle.site_write.proofs.OneSite.{load_store, store-check, store-load}
use Rattle.site_block.specs.Block.{block_check, load, store}
use Rattle.rows.specs.Site.{site_check}
use Rattle.table.proofs.Exact.{checked-sites}
use Rattle.table.proofs.Table.{shape}
use Rattle.table.specs.Table.{site_of, count_of, sites_check}

-- a table whose sites pass
module _ (n : ℕ) (t : List ℕ) (len : length t ≡ 63 * n) (w : Words t) (fine : sites_check n t ≡ Ok tt) (small : n ≤ 64) where
  site-at : (i : ℕ) → i < n → length (site_of t i) ≡ 63
  site-at i l = length_part 63 i n t l (rw len (le_refl (63 * n)))

  words-at : (i : ℕ) → Words (site_of t i)
  words-at i k = lt_of_le_of_lt (part-le 63 i t k) (w (63 * i + k))

  count_at : (i : ℕ) → i < n → count_of t i < 65536
  count_at i l = let h = (checked-sites t n len (omega arith) small fine).few-slices i l in omega arith

  loads-stores : loads n (stores n t) ≡ t
  unfolding loads
  loads-stores =
      cat-ext (λ i. load (part 512 i (stores n t))) (site_of t) n
      (λ i l. ap load (stores-block n t i l) ∙ load_store n i (site_of t i) (site-at i l) (words-at i) (count_at i l))
      ∙ cat-parts 63 n t
      ∙ take_all (63 * n) t (rw len (le_refl (63 * n)))

  stores-pass : blocks_check n (stores n t) ≡ Ok tt
  unfolding blocks_check sites_check
  stores-pass =
      first-sound (λ i. block_check n i i (part 512 i (stores n t))) n
      (λ i l. ap (block_check n i i) (stores-block n t i l)
      ∙ store-check n i (site_of t i) (site-at i l) (words-at i) (count_at i l) i (omega arith) (omega arith)
      ∙ first-all (λ j. site_check n j j (site_of t j)) n i fine l)

-- an image whose blocks pass
stores-loads : (n : ℕ) (image : List ℕ) → length image ≡ 512 * n → Bytes image → blocks_check n image ≡ Ok tt → stores n (loads n image) ≡ image
unfolding stores blocks_check
stores-loads n image len hb fine =
    cat-ext (λ i. store n i (site_of (loads n image) i)) (λ i. part 512 i image) n
    (λ i l. let q = block-sound n i i (part 512 i image) (first-all (λ j. block_check n j j (part 512 j image)) n i fine l) in
    ap (store n i) (loads-site n image i l)
    ∙ store-load n i (part 512 i image) (bytes-part 512 (512 * i) image hb) (length_part 512 i n image l (rw len (le_refl (512 * n)))) q.1 q.2 q.3 q.0)
    ∙ cat-parts 512 n image
    ∙ take_all (512 * n) image (rw len (le_refl (512 * n)))

pub read-then-write : ReadThenWrite
unfolding read_into write_into
read-then-write image room out n hb h o =
    let r = read_taken image (length room) n h in
    let s = blocks-shape (length image) r.0 in
    let k = r.1 in
    let e : length image ≡ 512 * n = rw k at s.0 in
    let f = loads-front n image (drop (63 * n) room) in (
      ap (λ (t : List ℕ). write t (length out)) f
          ∙ write-all (loads n image) (length out) n (length-loads n image) (rw k at s.1) (rw k at s.2) o (loads-sound n image r.2),
      ap (λ (t : List ℕ). stores n t ++ drop (512 * n) out) f ∙ ap (λ (x : List ℕ). x ++ drop (512 * n) out) (stores-loads n image e hb r.2),
    )

pub write-then-read : WriteThenRead
unfolding read_into write_into
write-then-read t room out n w h o =
    let r = write-taken t (length room) n h in
    let s = shape (length t) r.0 in
    let k = r.1 in
    let e : length t ≡ 63 * n = rw k at s.0 in
    let p : 1 ≤ n = rw k at s.1 in
    let q : n ≤ 64 = rw k at s.2 in
    let f = stores-front n t (drop (512 * n) room) in (
      ap (λ (b : List ℕ). read b (length out)) f ∙ read_all (stores n t) (length out) n (length-stores n t) p q o (stores-pass n t e w r.2 q),
      ap (λ (b : List ℕ). loads n b ++ drop (63 * n) out) f ∙ ap (λ (x : List ℕ). x ++ drop (63 * n) out) (loads-stores n t e w r.2 q),
    )
