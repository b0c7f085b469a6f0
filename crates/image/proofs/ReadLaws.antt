-- Laws of reading: the length, a way out each, that a table which was read holds a quorum, and what an answer says that is no refusal.
use Rattle.refusals.specs.Check.{Check}
use Rattle.std.specs.Prelude.{Ok, Err}
use Prim.Native.Nat.{ℕ, ◌*◌, ◌/◌, ◌%◌, ◌≤◌, ◌<◌}
use mathlib.Core.Bool.{true, false, ◌||◌, not, or-true}
use mathlib.Core.List.{List, ◌++◌}
use mathlib.Core.Logic.{⊎_elim}
use mathlib.Core.Path.{◌≡◌, refl, sym, ap, ◌∙◌}
use native.Mathlib.Omega.{arith}
use lib.Dec.{eqb, ltb}
use lib.ListN.{length, take}
use borrow.Author.Tests.{eqb-true, eqb-false, eq-eqb, ne_eqb, ltb-false, lt-ltb, le-ltb, not-false}
use Rattle.ground.proofs.Logic.{cases, or-none}
use Rattle.ground.specs.Pieces.{part}
use Rattle.image_blocks.specs.Image.{image_misshapen, blocks_check, loads}
use Rattle.image.specs.Read.{quorumless, read_check, to_reading, read}
use Rattle.image_blocks.proofs.Load.{length-loads, loads-site, loads-front}
use Rattle.masks.specs.Mask.{all_below}
use Rattle.refusals.proofs.First.{or_else-sound, first-all, first-sound, missed}
use Rattle.refusals.specs.declared.Refusal.{Refusal}
use Rattle.refusals.specs.declared.Refusal.TheVariants.{Length, Room}
use Rattle.sets.proofs.Groups.{table-rows}
use Rattle.sets.proofs.Lawful.{table-lawful}
use Rattle.sets.proofs.Rows.{rows-lawful}
use Rattle.sets.proofs.WholeQuorum as whole
use Rattle.sets.specs.Quorum.{largest}
use Rattle.sets.specs.Inner.Rows.{Rows, rules_of}
use Rattle.sets.specs.Slices.{slices_of}
use Rattle.site_block.proofs.Block.{block-sound}
use Rattle.site_block.specs.Block.{block_check}
use Rattle.rows.specs.Site.{site_check}
use Rattle.table.proofs.Exact.{checked-sites}
use Rattle.table.specs.Table.{site_of, sites_check, Table}

-- the length

module _ (many : ℕ) where
  pub no_blocks : many / 512 ≡ 0 → image_misshapen many ≡ true
  unfolding image_misshapen
  no_blocks e =
      ⊎_elim (λ z. rw z refl) (λ z. let ne = eqb-false many 0 z in rw (z, ne_eqb (many % 512) 0 (λ r. omega arith)) refl) (cases (eqb many 0))

  pub odd-blocks : (many % 512 ≡ 0 → ⊥) → image_misshapen many ≡ true
  unfolding image_misshapen
  odd-blocks ne = rw (ne_eqb (many % 512) 0 ne) (or-true (eqb many 0))

  pub too_many_blocks : 64 < many / 512 → image_misshapen many ≡ true
  unfolding image_misshapen
  too_many_blocks l = rw (lt-ltb 32768 many (omega arith), or-true) (or-true (eqb many 0))

  pub whole-blocks : (many / 512 ≡ 0 → ⊥) → many % 512 ≡ 0 → many / 512 ≤ 64 → image_misshapen many ≡ false
  unfolding image_misshapen
  whole-blocks ne e l = rw (ne_eqb many 0 (λ z. ne (omega arith)), eq-eqb (many % 512) 0 e, le-ltb 32768 many (omega arith)) refl

  pub blocks-shape : image_misshapen many ≡ false → (many ≡ 512 * (many / 512)) × (1 ≤ many / 512) × (many / 512 ≤ 64)
  unfolding image_misshapen
  blocks-shape h =
      let p = or-none (eqb many 0) (not (eqb (many % 512) 0) || ltb 32768 many) h in
      let q = or-none (not (eqb (many % 512) 0)) (ltb 32768 many) p.1 in
      let ne = eqb-false many 0 p.0 in
      let e = eqb-true (many % 512) 0 (not-false (eqb (many % 512) 0) q.0) in
      let l = ltb-false 32768 many q.1 in
      (omega arith, omega arith, omega arith)

-- the sites of an image whose blocks pass are sound, so it holds a quorum

pub loads-sound : (n : ℕ) (image : List ℕ) → blocks_check n image ≡ Ok tt → sites_check n (loads n image) ≡ Ok tt
unfolding blocks_check sites_check
loads-sound n image h =
    first-sound (λ i. site_check n i i (site_of (loads n image) i)) n
    (λ i l. ap (site_check n i i) (loads-site n image i l)
    ∙ (block-sound n i i (part 512 i image) (first-all (λ j. block_check n j j (part 512 j image)) n i h l)).4)

pub loads-table : (n : ℕ) (image : List ℕ) → 1 ≤ n → n ≤ 64 → blocks_check n image ≡ Ok tt → Table (loads n image) n
loads-table n image p q h = checked-sites (loads n image) n (length-loads n image) p q (loads-sound n image h)

pub some-quorum : (n : ℕ) (t : List ℕ) → Table t n → quorumless n t ≡ false
unfolding quorumless
some-quorum n t s = ne_eqb (largest (slices_of t).inside n (all_below n)) 0 (whole.some-quorum (table-lawful s) s.some-site)

-- the same of the table that a room begins with once all blocks were loaded into it
module _ (n : ℕ) (image d m : List ℕ) (e : m ≡ loads n image ++ d) (p : 1 ≤ n) (q : n ≤ 64) (h : blocks_check n image ≡ Ok tt) where
  pub room-rows : Rows (take (63 * n) m) n
  room-rows = rw (e, loads-front n image d) (table-rows (loads-table n image p q h))

  pub room-quorum : (w : ℕ) → w ≡ all_below n → largest (rules_of (take (63 * n) m)).inside n w ≡ 0 → ⊥
  room-quorum w ew z = whole.some-quorum (rows-lawful room-rows) room-rows.some-site (rw ew at z)

-- the ways out

module _ (image : List ℕ) (room : ℕ) where
  pub read_length : image_misshapen (length image) ≡ true → read image room ≡ Err Length
  unfolding read read_check
  read_length e = rw e refl

  module _ (e : image_misshapen (length image) ≡ false) where
    pub read-room : room < 63 * (length image / 512) → read image room ≡ Err Room
    unfolding read read_check
    read-room l = rw (e, lt-ltb room (63 * (length image / 512)) l) refl

    pub read-block : 63 * (length image / 512) ≤ room → (r : Refusal) → blocks_check (length image / 512) image ≡ Err r → read image room ≡ Err r
    unfolding read read_check
    read-block l r h = rw (e, le-ltb room (63 * (length image / 512)) l, h) refl

    pub read-sites : 63 * (length image / 512) ≤ room → blocks_check (length image / 512) image ≡ Ok tt → read image room ≡ Ok (length image / 512)
    unfolding read read_check
    read-sites l h =
        let n = length image / 512 in
        let s = blocks-shape (length image) e in
        rw (e, le-ltb room (63 * n) l, h, some-quorum n (loads n image) (loads-table n image s.1 s.2 h)) refl

  pub read_taken : (n : ℕ) → read image room ≡ Ok n → (image_misshapen (length image) ≡ false) × (length image / 512 ≡ n) × (blocks_check n image ≡ Ok tt)
  unfolding read read_check
  read_taken n h =
      let k = length image / 512 in
      let d = done k n (read_check image room) h in
      let p = missed (image_misshapen (length image)) Length _ d.0 in
      let q = missed (ltb room (63 * k)) Room _ p.1 in
      (p.0, d.1, ap (λ (x : ℕ). blocks_check x image) (sym d.1) ∙ (or_else-sound (blocks_check k image) _ q.1).0)
    where
      done : (k n : ℕ) (s : Check) → to_reading k s ≡ Ok n → (s ≡ Ok tt) × (k ≡ n)
      done k n (Ok _) h = (refl, cc)
      done k n (Err r) h = let z : ◌≡◌ {A = ℕ} 0 1 = cc in absurd (omega arith)

-- an image of n blocks that pass, and room for them
pub read_all : (image : List ℕ) (room n : ℕ) → length image ≡ 512 * n → 1 ≤ n → n ≤ 64 → 63 * n ≤ room → blocks_check n image ≡ Ok tt → read image room ≡ Ok n
read_all image room n len p q l h =
    let k : length image / 512 ≡ n = omega arith in
    read-sites image room (whole-blocks (length image) (λ z. omega arith) (omega arith) (rw k q)) (rw k l) (rw k h) ∙ ap Ok k
