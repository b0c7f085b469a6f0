-- Laws of the length of an image, and the ways out of its check.
use Rattle.std.specs.Prelude.{Err}
use Prim.Native.Nat.{ℕ, ◌*◌, ◌/◌, ◌%◌, ◌≤◌, ◌<◌}
use mathlib.Core.Bool.{true, false, ◌||◌, not, or-true}
use mathlib.Core.List.{List}
use mathlib.Core.Logic.{⊎_elim}
use mathlib.Core.Path.{◌≡◌, refl}
use native.Mathlib.Omega.{arith}
use lib.Dec.{eqb, ltb}
use lib.ListN.{length}
use borrow.Author.Tests.{eqb-true, eqb-false, eq-eqb, ne_eqb, ltb-false, lt-ltb, le-ltb, not-false}
use Rattle.ground.proofs.Logic.{cases, or-none}
use Rattle.image_blocks.specs.Image.{image_misshapen}
use Rattle.refusals.specs.declared.Refusal.TheVariants.{Length}
use Rattle.threshold_image.specs.Image.{image_sites, threshold_blocks_check, thresholds_check}

module _ (many : ℕ) where
  pub no_blocks : many / 512 ≡ 0 → image_misshapen many ≡ true
  unfolding image_misshapen
  no_blocks e =
      ⊎_elim (λ z. rw z refl) (λ z. let ne = eqb-false many 0 z in rw (z, ne_eqb (many % 512) 0 (λ r. omega arith)) refl) (cases (eqb many 0))

  pub odd-blocks : (many % 512 ≡ 0 → ⊥) → image_misshapen many ≡ true
  unfolding image_misshapen
  odd-blocks ne = rw (ne_eqb (many % 512) 0 ne) (or-true (eqb many 0))

  pub too_many_blocks : 64 < many / 512 → image_misshapen many ≡ true
  unfolding image_misshapen
  too_many_blocks l = rw (lt-ltb 32768 many (omega arith), or-true) (or-true (eqb many 0))

  pub whole-blocks : (many / 512 ≡ 0 → ⊥) → many % 512 ≡ 0 → many / 512 ≤ 64 → image_misshapen many ≡ false
  unfolding image_misshapen
  whole-blocks ne e l = rw (ne_eqb many 0 (λ z. ne (omega arith)), eq-eqb (many % 512) 0 e, le-ltb 32768 many (omega arith)) refl

  pub blocks-shape : image_misshapen many ≡ false → (many ≡ 512 * (many / 512)) × (1 ≤ many / 512) × (many / 512 ≤ 64)
  unfolding image_misshapen
  blocks-shape h =
      let p = or-none (eqb many 0) (not (eqb (many % 512) 0) || ltb 32768 many) h in
      let q = or-none (not (eqb (many % 512) 0)) (ltb 32768 many) p.1 in
      let ne = eqb-false many 0 p.0 in
      let e = eqb-true (many % 512) 0 (not-false (eqb (many % 512) 0) q.0) in
      let l = ltb-false 32768 many q.1 in
      (omega arith, omega arith, omega arith)

-- the ways out
pub wrong-length : (image : List ℕ) → image_misshapen (length image) ≡ true → thresholds_check image ≡ Err Length
unfolding thresholds_check
wrong-length image e = rw e refl

pub right-length : (image : List ℕ) → image_misshapen (length image) ≡ false → thresholds_check image ≡ threshold_blocks_check (image_sites (length image)) image
unfolding thresholds_check
right-length image e = rw e refl
