-- A table of thresholds on file: blocks of 512 bytes, one a site, in site order.
use Rattle.refusals.specs.Check.{Check}
use Rattle.std.specs.Prelude.{ℕ, ◌*◌, ◌/◌, ◌≤◌, ◌<◌, true, false, List, ◌↔◌, ◌≡◌, length, Ok}
use Rattle.block.specs.Block.{sealed}
use Rattle.ground.specs.Pieces.{part}
use Rattle.image_blocks.specs.Image.{image_misshapen}
use Rattle.refusals.specs.First.{or_else, refuse, first}
use Rattle.refusals.specs.declared.Refusal.TheVariants.{Length}
use Rattle.site_block.specs.Block.{misheaded}
use Rattle.threshold_block.specs.Block.{sets_in, sets_unfilled, threshold_block_check}
use Rattle.threshold_sets.specs.Check.{SoundSets}

-- how many sites an image of so many bytes has
abbrev pub image_sites : ℕ → ℕ
image_sites length = length / 512

-- all blocks, in order; the site of a block is its place
unfoldable pub threshold_blocks_check : ℕ → List ℕ → Check
unfolding threshold_block_check first
threshold_blocks_check n image = first (λ i. threshold_block_check n i i (part 512 i image)) n

-- 1, then block by block
unfoldable pub thresholds_check : List ℕ → Check
unfolding image_misshapen threshold_blocks_check
thresholds_check image = or_else (refuse (image_misshapen (length image)) Length) (threshold_blocks_check (image_sites (length image)) image)

-- what a sound image promises: 1 to 64 blocks, each with its check, its head, sound sets and filler of zeros
pub record Thresholds (image : List ℕ) (n : ℕ) : Type 0 where
  pub long : length image ≡ 512 * n
  pub some-site : 1 ≤ n
  pub few-sites : n ≤ 64
  pub sealed-so : (v : ℕ) → v < n → sealed (part 512 v image) ≡ true
  pub headed : (v : ℕ) → v < n → misheaded n v (part 512 v image) ≡ false
  pub sets : (v : ℕ) → v < n → SoundSets n (sets_in (part 512 v image))
  pub filled : (v : ℕ) → v < n → sets_unfilled (part 512 v image) ≡ false

-- the check takes exactly the sound images
abbrev pub ThresholdsExact : Type 0
ThresholdsExact = (image : List ℕ) → (thresholds_check image ≡ Ok tt) ↔ Thresholds image (image_sites (length image))
