-- The row of a block holds the sets that the block holds.
use Prim.Native.Nat.{ℕ, ◌+◌, ◌-◌, ◌*◌, ◌/◌, ◌%◌, ◌^◌, ◌≤◌, ◌<◌}
use mathlib.Core.List.{List}
use mathlib.Core.Logic.{⊎_elim}
use mathlib.Core.Path.{◌≡◌, ap, ◌∙◌}
use native.Mathlib.Omega.{arith}
use lib.Dec.{ltb}
use lib.ListN.{get_or}
use borrow.Author.Tests.{ltb-true, ltb-false}
use Rattle.ground.proofs.Logic.{cases}
use Rattle.ground.proofs.Numbers.{same?}
use Rattle.le.proofs.Laws.{field2}
use Rattle.le.specs.Le.{Bytes}
use Rattle.site_block.specs.Block.{count_field}
use Rattle.threshold_block.specs.Block.{sets_in}
use Rattle.threshold_row.specs.Inner.Row.{pair_in, sets_of, pair_at, four_at, sets_row}
use Rattle.threshold_row.proofs.Load.{row_count, row-mask, row-four, row_last}
use Rattle.threshold_sets.proofs.Alike.{Agree, met-alike}
use Rattle.threshold_sets.specs.Met.{root_met}

-- four numbers of 16 bits in one: each is read back
module _ (p q r s : ℕ) (hp : p < 65536) (hq : q < 65536) (hr : r < 65536) (hs : s < 65536) where
  first_of : (p + (65536 * q + (4294967296 * r + 281474976710656 * s))) / 2 ^ (16 * 0) % 65536 ≡ p
  first_of = omega arith

  second-of : (p + (65536 * q + (4294967296 * r + 281474976710656 * s))) / 2 ^ (16 * 1) % 65536 ≡ q
  second-of = omega arith

  third_of : (p + (65536 * q + (4294967296 * r + 281474976710656 * s))) / 2 ^ (16 * 2) % 65536 ≡ r
  third_of = omega arith

  fourth-of : (p + (65536 * q + (4294967296 * r + 281474976710656 * s))) / 2 ^ (16 * 3) % 65536 ≡ s
  fourth-of = omega arith

module _ (b : List ℕ) (bytes : Bytes b) where
  pair_fits : (i : ℕ) → pair_at b i < 65536
  pair_fits i = omega (arith, field2 b (8 + 10 * i), bytes (8 + 10 * i), bytes (8 + 10 * i + 1))

  -- set 4 k + j, the j-th of a number of four
  of_four : (k j : ℕ) → j < 4 → four_at b k / 2 ^ (16 * j) % 65536 ≡ pair_at b (4 * k + j)
  of_four k j l =
      let f0 = pair_fits (4 * k) in
      let f1 = pair_fits (4 * k + 1) in
      let f2 = pair_fits (4 * k + 2) in
      let f3 = pair_fits (4 * k + 3) in
      ⊎_elim (λ e. rw e (first_of _ _ _ _ f0 f1 f2 f3 ∙ ap (pair_at b) (omega arith)))
      (λ n0. ⊎_elim (λ e. rw e (second-of _ _ _ _ f0 f1 f2 f3))
      (λ n1. ⊎_elim (λ e. rw e (third_of _ _ _ _ f0 f1 f2 f3))
      (λ n2. let e : j ≡ 3 = omega arith in rw e (fourth-of _ _ _ _ f0 f1 f2 f3)) (same? j 2)) (same? j 1)) (same? j 0)

  pair-loaded : (i : ℕ) → i < 49 → pair_in (sets_row b) i ≡ pair_at b i
  pair-loaded i l =
      ⊎_elim
      (λ t. let h = ltb-true i 48 t in
      ap (λ (x : ℕ). x / 2 ^ (16 * (i % 4)) % 65536) (row-four b (i / 4) (omega arith)) ∙ of_four (i / 4) (i % 4) (omega arith) ∙ ap (pair_at b) (omega arith))
      (λ t. let h = ltb-false i 48 t in
      let e : i ≡ 48 = omega arith in
      rw e (ap (λ (x : ℕ). x / 2 ^ (16 * 0) % 65536) (row_last b) ∙ omega (arith, pair_fits 48)))
      (cases (ltb i 48))

  low : (i : ℕ) → pair_at b i % 256 ≡ get_or b (8 + 10 * i) 0
  low i = omega (arith, field2 b (8 + 10 * i), bytes (8 + 10 * i))

  high : (i : ℕ) → pair_at b i / 256 ≡ get_or b (9 + 10 * i) 0
  high i =
      let e : 8 + 10 * i + 1 ≡ 9 + 10 * i = omega arith in
      let f : pair_at b i ≡ get_or b (8 + 10 * i) 0 + 256 * get_or b (9 + 10 * i) 0 = rw e at (field2 b (8 + 10 * i)) in
      omega (arith, f, bytes (8 + 10 * i))

  -- the same sets, all 49
  pub loaded : Agree 49 (sets_of (sets_row b)) (sets_in b)
  loaded =
      record {
        count-alike = ap (λ (x : ℕ). x - 64) (row_count b) ∙ omega arith;
        threshold-alike = λ i l. ap (λ (x : ℕ). x % 256) (pair-loaded i l) ∙ low i;
        inner-alike = λ i l. ap (λ (x : ℕ). x / 256) (pair-loaded i l) ∙ high i;
        plain-alike = λ i l. row-mask b i l;
      }

  -- met alike
  pub loaded-met : count_field b ≤ 49 → (u : ℕ) → root_met (sets_of (sets_row b)) u ≡ root_met (sets_in b) u
  loaded-met few u = met-alike loaded (omega arith) (omega (arith, loaded.count-alike)) u
