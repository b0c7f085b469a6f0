-- Laws of loading: the loop that loads all blocks, and the sites of what was loaded.
use Prim.Native.Nat.{ℕ, ◌+◌, ◌-◌, ◌*◌, ◌<◌}
use mathlib.Core.List.{List, ◌++◌}
use mathlib.Core.Path.{◌≡◌, refl}
use lib.ListN.{length, take, drop}
use lib.Seq.{take_at}
use Rattle.ground.proofs.Pieces.{length-cat, fill-part, part-cat}
use Rattle.ground.specs.Pieces.{cat, part}
use Rattle.image_blocks.specs.Image.{loads}
use Rattle.site_block.proofs.Load.{length-load}
use Rattle.site_block.specs.Block.{load}
use Rattle.table.specs.Table.{site_of}

pub length-loads : (n : ℕ) (image : List ℕ) → length (loads n image) ≡ 63 * n
unfolding loads
length-loads n image = length-cat (λ i. load (part 512 i image)) 63 n (λ i h. length-load (part 512 i image))

pub loads-zero : (image d : List ℕ) → d ≡ loads 0 image ++ drop (63 * 0) d
unfolding loads cat
loads-zero image d = refl

pub loads-again : (image m d y : List ℕ) (i : ℕ) → m ≡ loads i image ++ drop (63 * i) d → y ≡ load (part 512 i image)
    → take (63 * i) m ++ (y ++ drop (63 * i + 63 - 63 * i) (drop (63 * i) m)) ≡ loads (i + 1) image ++ drop (63 * (i + 1)) d
unfolding loads
loads-again image m d y i e ey = fill-part (λ j. load (part 512 j image)) 63 i m d y (length-loads i image) e ey

-- the table that a longer list begins with
pub loads-front : (n : ℕ) (image d : List ℕ) → take (63 * n) (loads n image ++ d) ≡ loads n image
loads-front n image d = take_at (loads n image) d (63 * n) (length-loads n image)

-- each site of it is one block's
pub loads-site : (n : ℕ) (image : List ℕ) (i : ℕ) → i < n → site_of (loads n image) i ≡ load (part 512 i image)
unfolding loads
loads-site n image i l = part-cat (λ j. load (part 512 j image)) 63 n i l (λ j h. length-load (part 512 j image))
