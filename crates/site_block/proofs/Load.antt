-- Laws of loading: the 63 numbers of a block, and the loop that fills a list with them.
use Prim.Native.Nat.{ℕ, suc, ◌+◌, ◌<◌}
use mathlib.Core.List.{List, [], ◌∷◌, ◌++◌, append-nil}
use mathlib.Core.Path.{◌≡◌, refl, ◌∙◌}
use native.Mathlib.Omega.{arith}
use lib.ListN.{length, drop, set}
use lib.Seq.{drop-length}
use Rattle.ground.proofs.Pieces.{fill_one, cat-more, length-cat, cat-at}
use Rattle.ground.specs.Pieces.{cat}
use Rattle.site_block.specs.Block.{count_field, slice_field, load}
use Rattle.rows.specs.Site.{count, slice}

-- the count and the first k places of a block
unfoldable pub load_to : List ℕ → ℕ → List ℕ
load_to b k = count_field b ∷ cat (λ j. slice_field b j ∷ []) k

length-load_to : (b : List ℕ) (k : ℕ) → length (load_to b k) ≡ 1 + k
unfolding load_to
length-load_to b k = omega (arith, length-cat (λ j. slice_field b j ∷ []) 1 k (λ i h. refl))

load_to-more : (b : List ℕ) (k : ℕ) → load_to b (k + 1) ≡ load_to b k ++ (slice_field b k ∷ [])
unfolding load_to
load_to-more b k = rw (cat-more (λ j. slice_field b j ∷ []) k) refl

-- the loop that loads a block
pub load-holds : (b d : List ℕ) (x : ℕ) → 0 < length d → x ≡ count_field b → set d 0 x ≡ load_to b 0 ++ drop (1 + 0) (set d 0 x)
unfolding load_to cat
load-holds b [] x h e = absurd (omega arith)
load-holds b (y ∷ d) x h e = rw e refl

pub load_again : (b m d : List ℕ) (k x : ℕ) → 1 + k < length d → m ≡ load_to b k ++ drop (1 + k) d → x ≡ slice_field b k
    → set m (1 + k) x ≡ load_to b (k + 1) ++ drop (1 + (k + 1)) d
load_again b m d k x h e ex =
    let n : 1 + (k + 1) ≡ 1 + k + 1 = omega arith in
    rw (e, ex, load_to-more b k, n) (fill_one (load_to b k) d (1 + k) (slice_field b k) (length-load_to b k) h)

pub load-done : (b m d : List ℕ) (k : ℕ) → k ≡ 62 → length d ≡ 63 → m ≡ load_to b k ++ drop (1 + k) d → m ≡ load b
unfolding load load_to
load-done b m d k ek ed e =
    let n : drop 63 d ≡ [] = rw (← ed) (drop-length d) in
    let g : m ≡ load_to b 62 ++ drop 63 d = rw ek at e in
    g ∙ rw n (append-nil (load_to b 62))

pub length-load : (b : List ℕ) → length (load b) ≡ 63
unfolding load load_to
length-load b = length-load_to b 62

-- what was loaded
pub load-count : (b : List ℕ) → count (load b) ≡ count_field b
unfolding load
load-count b = refl

pub load-slice : (b : List ℕ) (k : ℕ) → k < 62 → slice (load b) k ≡ slice_field b k
unfolding load
load-slice b k l = let e : 1 + k ≡ suc k = omega arith in rw e (cat-at (slice_field b) 62 k l)
