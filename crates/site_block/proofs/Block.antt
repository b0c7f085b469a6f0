-- Laws of one block's check: a way out each, and that a block is refused for its slices and filler as its 63 numbers are.
use Rattle.std.specs.Prelude.{Ok, Err}
use Prim.Native.Nat.{ℕ, ◌+◌, ◌-◌, ◌*◌, ◌/◌, ◌%◌, ◌≤◌, ◌<◌}
use mathlib.Core.Bool.{true, false, ◌||◌, not, or-true}
use mathlib.Core.List.{List}
use mathlib.Core.Path.{◌≡◌, refl, sym, ap, ◌∙◌}
use native.Mathlib.Omega.{arith}
use lib.Dec.{eqb}
use lib.ListN.{get_or}
use borrow.Author.Tests.{eqb-true, eq-eqb, ne_eqb, not-false}
use Rattle.block.specs.Block.{sealed}
use Rattle.ground.proofs.Logic.{fail-alike, or-none}
use Rattle.ground.proofs.Some.{none_each, each_none}
use Rattle.ground.specs.Search.{some}
use Rattle.site_block.specs.Block.{site_field, sites_field, count_field, zero_field, slice_field, misheaded, block_unfilled, block_row_check, block_check, load}
use Rattle.site_block.proofs.Load.{load-slice}
use Rattle.le.proofs.Laws.{field-zeros, zeros-field}
use Rattle.refusals.proofs.First.{missed, passed}
use Rattle.refusals.specs.declared.Refusal.TheVariants.{Sums, Header}
use Rattle.rows.proofs.Row.{row-alike}
use Rattle.rows.proofs.Site.{unused-zero, zero-unused, zero-above, clean-above}
use Rattle.rows.specs.Site.{slice, row_unfilled, site_check}

-- filler: the bytes behind the last slice are 0 exactly if the unused places are
module _ (b : List ℕ) (l : count_field b ≤ 62) where
  filled-places : block_unfilled b ≡ false → (k : ℕ) → count_field b ≤ k → k < 62 → slice_field b k ≡ 0
  unfolding block_unfilled
  filled-places h k g s =
      let from = 8 + 8 * count_field b in
      field-zeros 8 b (8 + 8 * k)
      (λ j lj.
      let z = none_each (504 - from) (λ j. not (eqb (get_or b (from + j) 0) 0)) (8 + 8 * k + j - from) h (omega arith) in
      let e : from + (8 + 8 * k + j - from) ≡ 8 + 8 * k + j = omega arith in
      rw e at (eqb-true (get_or b (from + (8 + 8 * k + j - from)) 0) 0 (not-false _ z)))

  places-filled : ((k : ℕ) → count_field b ≤ k → k < 62 → slice_field b k ≡ 0) → block_unfilled b ≡ false
  unfolding block_unfilled
  places-filled f =
      let from = 8 + 8 * count_field b in
      each_none (504 - from) (λ j. not (eqb (get_or b (from + j) 0) 0))
      (λ j lj.
      let k = count_field b + j / 8 in
      let e : 8 + 8 * k + j % 8 ≡ from + j = omega arith in
      ap not (eq-eqb _ 0 (rw e at (zeros-field 8 b (8 + 8 * k) (f k (omega arith) (omega arith)) (j % 8) (omega arith)))))

  pub block-filler : block_unfilled b ≡ some (62 - count_field b) (λ j. not (eqb (slice_field b (count_field b + j)) 0))
  block-filler =
      fail-alike (block_unfilled b) (some (62 - count_field b) (λ j. not (eqb (slice_field b (count_field b + j)) 0)))
      (λ h. zero-unused (slice_field b) (count_field b) (filled-places h))
      (λ h. places-filled (unused-zero (slice_field b) (count_field b) h))

  same-filler : block_unfilled b ≡ row_unfilled (load b)
  unfolding load
  same-filler =
      fail-alike (block_unfilled b) (row_unfilled (load b))
      (λ h. clean-above (load b) (λ k g s. load-slice b k s ∙ filled-places h k g s))
      (λ h. places-filled (λ k g s. sym (load-slice b k s) ∙ zero-above (load b) h k g s))

-- what a block holds is refused as its 63 numbers are
pub row-site : (n owner place : ℕ) (b : List ℕ) → block_row_check n owner place b ≡ site_check n owner place (load b)
unfolding block_row_check site_check load
row-site n owner place b =
    row-alike n owner place (count_field b) (slice_field b) (slice (load b)) (block_unfilled b) (row_unfilled (load b))
    (λ k l. sym (load-slice b k l)) (λ l. same-filler b l)

-- the ways out
module _ (n site place : ℕ) (b : List ℕ) where
  pub wrong-sums : sealed b ≡ false → block_check n site place b ≡ Err (Sums place)
  unfolding block_check
  wrong-sums e = rw e refl

  module _ (s : sealed b ≡ true) where
    pub wrong-site : (site_field b ≡ site → ⊥) → block_check n site place b ≡ Err (Header place)
    unfolding block_check misheaded
    wrong-site ne = rw (s, ne_eqb (site_field b) site ne) refl

    pub wrong-n : (sites_field b ≡ n → ⊥) → block_check n site place b ≡ Err (Header place)
    unfolding block_check misheaded
    wrong-n ne = rw (s, ne_eqb (sites_field b) n ne, or-true) refl

    pub wrong-zero : (zero_field b ≡ 0 → ⊥) → block_check n site place b ≡ Err (Header place)
    unfolding block_check misheaded
    wrong-zero ne = rw (s, ne_eqb (zero_field b) 0 ne, or-true, or-true) refl

    pub right-head : site_field b ≡ site → sites_field b ≡ n → zero_field b ≡ 0 → block_check n site place b ≡ block_row_check n site place b
    unfolding block_check misheaded
    right-head p q z = rw (s, eq-eqb (site_field b) site p, eq-eqb (sites_field b) n q, eq-eqb (zero_field b) 0 z) refl

  -- what a block that passes has
  pub block-sound : block_check n site place b ≡ Ok tt
      → (sealed b ≡ true) × (site_field b ≡ site) × (sites_field b ≡ n) × (zero_field b ≡ 0) × (site_check n site place (load b) ≡ Ok tt)
  unfolding block_check misheaded
  block-sound h =
      let p = passed (sealed b) (Sums place) _ h in
      let q = missed (misheaded n site b) (Header place) (block_row_check n site place b) p.1 in
      let u = or-none (not (eqb (site_field b) site)) (not (eqb (sites_field b) n) || not (eqb (zero_field b) 0)) q.0 in
      let w = or-none (not (eqb (sites_field b) n)) (not (eqb (zero_field b) 0)) u.1 in (
        p.0,
        eqb-true (site_field b) site (not-false _ u.0),
        eqb-true (sites_field b) n (not-false _ w.0),
        eqb-true (zero_field b) 0 (not-false _ w.1),
        sym (row-site n site place b) ∙ q.1,
      )
