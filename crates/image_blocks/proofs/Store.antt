-- Laws of the loop that writes all blocks.
use Prim.Native.Nat.{ℕ, ◌+◌, ◌-◌, ◌*◌, ◌<◌}
use mathlib.Core.List.{List, ◌++◌}
use mathlib.Core.Path.{◌≡◌, refl, ap, ◌∙◌}
use lib.ListN.{length, take, drop}
use lib.Seq.{take_at}
use Rattle.ground.proofs.Pieces.{length-cat, fill-part, part-cat}
use Rattle.ground.specs.Pieces.{cat, part}
use Rattle.image_blocks.specs.Image.{stores}
use Rattle.site_write.proofs.Store.{length-store}
use Rattle.site_block.specs.Block.{store}
use Rattle.table.specs.Table.{site_of}

-- all sites: the first i blocks of an image of n
unfoldable pub stores_to : ℕ → List ℕ → ℕ → List ℕ
stores_to n t i = cat (λ j. store n j (site_of t j)) i

pub stores-holds : (n : ℕ) (t d : List ℕ) → d ≡ stores_to n t 0 ++ drop (512 * 0) d
unfolding stores_to cat
stores-holds n t d = refl

pub stores-again : (n : ℕ) (t m d y : List ℕ) (i : ℕ) → m ≡ stores_to n t i ++ drop (512 * i) d → y ≡ store n i (site_of t i)
    → take (512 * i) m ++ (y ++ drop (512 * i + 512 - 512 * i) (drop (512 * i) m)) ≡ stores_to n t (i + 1) ++ drop (512 * (i + 1)) d
unfolding stores_to
stores-again n t m d y i e ey =
    fill-part (λ j. store n j (site_of t j)) 512 i m d y (length-cat (λ j. store n j (site_of t j)) 512 i (λ j h. length-store n j (site_of t j))) e ey

pub stores-done : (n : ℕ) (t m d : List ℕ) (i : ℕ) → i ≡ n → m ≡ stores_to n t i ++ drop (512 * i) d → m ≡ stores n t ++ drop (512 * n) d
unfolding stores_to stores
stores-done n t m d i e h = h ∙ ap (λ (k : ℕ). stores_to n t k ++ drop (512 * k) d) e

pub length-stores : (n : ℕ) (t : List ℕ) → length (stores n t) ≡ 512 * n
unfolding stores
length-stores n t = length-cat (λ j. store n j (site_of t j)) 512 n (λ j h. length-store n j (site_of t j))

-- the image that a longer list begins with
pub stores-front : (n : ℕ) (t d : List ℕ) → take (512 * n) (stores n t ++ d) ≡ stores n t
stores-front n t d = take_at (stores n t) d (512 * n) (length-stores n t)

-- each block of it is one site's
pub stores-block : (n : ℕ) (t : List ℕ) (i : ℕ) → i < n → part 512 i (stores n t) ≡ store n i (site_of t i)
unfolding stores
stores-block n t i l = part-cat (λ j. store n j (site_of t j)) 512 n i l (λ j h. length-store n j (site_of t j))
