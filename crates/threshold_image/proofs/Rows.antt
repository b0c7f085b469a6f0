-- Laws of loading: the loop that loads all blocks, and the rows of what was loaded.
use Prim.Native.Nat.{ℕ, ◌+◌, ◌-◌, ◌*◌, ◌<◌}
use mathlib.Core.List.{List, ◌++◌}
use mathlib.Core.Path.{◌≡◌, refl}
use lib.ListN.{length, take, drop}
use Rattle.ground.proofs.Pieces.{length-cat, fill-part, part-cat}
use Rattle.ground.specs.Pieces.{cat, part}
use Rattle.threshold_image.specs.Inner.{rows_of}
use Rattle.threshold_row.proofs.Load.{length-row}
use Rattle.threshold_row.specs.Inner.Row.{sets_row}

pub length-rows : (n : ℕ) (image : List ℕ) → length (rows_of n image) ≡ 63 * n
unfolding rows_of
length-rows n image = length-cat (λ i. sets_row (part 512 i image)) 63 n (λ i h. length-row (part 512 i image))

pub rows-zero : (image d : List ℕ) → d ≡ rows_of 0 image ++ drop (63 * 0) d
unfolding rows_of cat
rows-zero image d = refl

pub rows-again : (image m d y : List ℕ) (i : ℕ) → m ≡ rows_of i image ++ drop (63 * i) d → y ≡ sets_row (part 512 i image)
    → take (63 * i) m ++ (y ++ drop (63 * i + 63 - 63 * i) (drop (63 * i) m)) ≡ rows_of (i + 1) image ++ drop (63 * (i + 1)) d
unfolding rows_of
rows-again image m d y i e ey = fill-part (λ j. sets_row (part 512 j image)) 63 i m d y (length-rows i image) e ey

-- each row of it is one block's
pub row_of : (n : ℕ) (image : List ℕ) (i : ℕ) → i < n → part 63 i (rows_of n image) ≡ sets_row (part 512 i image)
unfolding rows_of
row_of n image i l = part-cat (λ j. sets_row (part 512 j image)) 63 n i l (λ j h. length-row (part 512 j image))
