-- The check takes exactly the sound images.
use Rattle.std.specs.Prelude.{Ok}
use Prim.Native.Nat.{ℕ, ◌<◌}
use mathlib.Core.Bool.{true, false}
use mathlib.Core.List.{List}
use mathlib.Core.Path.{◌≡◌, ap, ◌∙◌}
use native.Mathlib.Omega.{arith}
use lib.ListN.{length}
use Rattle.block.specs.Block.{sealed}
use Rattle.ground.specs.Pieces.{part}
use Rattle.image_blocks.specs.Image.{image_misshapen}
use Rattle.refusals.proofs.First.{first-all, first-sound, missed, passed}
use Rattle.refusals.specs.First.{or_else, refuse}
use Rattle.refusals.specs.declared.Refusal.TheVariants.{Length, Sums, Header}
use Rattle.site_block.specs.Block.{misheaded}
use Rattle.threshold_block.specs.Block.{sets_in, sets_unfilled, threshold_block_check}
use Rattle.threshold_image.specs.Image.{image_sites, threshold_blocks_check, thresholds_check, Thresholds, ThresholdsExact}
use Rattle.threshold_image.proofs.Length.{whole-blocks, blocks-shape, right-length}
use Rattle.threshold_sets.proofs.Exact.{sets-checked, sets-sound}
use Rattle.threshold_sets.specs.Check.{sets_check, SoundSets}

-- what is sound of one block
record SoundBlock (n site : ℕ) (b : List ℕ) : Type 0 where
  sums : sealed b ≡ true
  head : misheaded n site b ≡ false
  held : SoundSets n (sets_in b)
  clean : sets_unfilled b ≡ false

block-sound : (n site place : ℕ) (b : List ℕ) → threshold_block_check n site place b ≡ Ok tt → SoundBlock n site b
unfolding threshold_block_check
block-sound n site place b h =
    let inside = sets_check n place (sets_in b) (sets_unfilled b) in
    let p = passed (sealed b) (Sums place) (or_else (refuse (misheaded n site b) (Header place)) inside) h in
    let q = missed (misheaded n site b) (Header place) inside p.1 in
    let s = sets-checked n place (sets_in b) (sets_unfilled b) q.1 in
    record { sums = p.0; head = q.0; held = s.0; clean = s.1 }

sound-block : (n site place : ℕ) (b : List ℕ) → SoundBlock n site b → threshold_block_check n site place b ≡ Ok tt
unfolding threshold_block_check
sound-block n site place b s = rw (s.sums, s.head) (sets-sound n place (sets_in b) (sets_unfilled b) s.held s.clean)

-- what gets through is sound
pub thresholds-checked : (image : List ℕ) → thresholds_check image ≡ Ok tt → Thresholds image (image_sites (length image))
unfolding thresholds_check threshold_blocks_check
thresholds-checked image h =
    let n = image_sites (length image) in
    let p = missed (image_misshapen (length image)) Length (threshold_blocks_check n image) h in
    let q = blocks-shape (length image) p.0 in
    let each : (v : ℕ) → v < n → SoundBlock n v (part 512 v image) =
    λ v l. block-sound n v v (part 512 v image) (first-all (λ w. threshold_block_check n w w (part 512 w image)) n v p.1 l) in
    record {
      long = q.0;
      some-site = q.1;
      few-sites = q.2;
      sealed-so = λ v l. (each v l).sums;
      headed = λ v l. (each v l).head;
      sets = λ v l. (each v l).held;
      filled = λ v l. (each v l).clean;
    }

-- what is sound gets through
pub thresholds-sound : {image : List ℕ} {n : ℕ} → Thresholds image n → thresholds_check image ≡ Ok tt
unfolding threshold_blocks_check
thresholds-sound {image} {n} t =
    let z = t.long in
    let a = t.some-site in
    let b = t.few-sites in
    let e : image_sites (length image) ≡ n = omega arith in
    right-length image (whole-blocks (length image) (λ k. omega arith) (omega arith) (omega arith))
    ∙ ap (λ (k : ℕ). threshold_blocks_check k image) e
    ∙ first-sound (λ v. threshold_block_check n v v (part 512 v image)) n
    (λ v l. sound-block n v v (part 512 v image) (record { sums = t.sealed-so v l; head = t.headed v l; held = t.sets v l; clean = t.filled v l }))

pub thresholds-exact : ThresholdsExact
thresholds-exact image = (thresholds-checked image, λ t. thresholds-sound t)
