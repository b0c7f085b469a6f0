-- Laws of loading: the 63 numbers of a block's sets, and the loops that fill a list with them.
use Prim.Native.Nat.{ℕ, suc, ◌+◌, ◌*◌, ◌<◌}
use mathlib.Core.List.{List, [], ◌∷◌, ◌++◌, append-nil, append_assoc}
use mathlib.Core.Path.{◌≡◌, refl, sym, ap, ap₂, ◌∙◌}
use native.Mathlib.Omega.{arith}
use lib.ListN.{length, get_or, drop, set, length-append, get_or-append}
use lib.Seq.{drop-length, drop_at, drop-set-lt, get_or-append-add, get_or_at}
use Rattle.ground.proofs.Pieces.{fill_one, cat-more, length-cat, cat-at}
use Rattle.ground.specs.Pieces.{cat}
use Rattle.le.specs.Le.{field}
use Rattle.site_block.specs.Block.{count_field}
use Rattle.threshold_row.specs.Inner.Row.{pair_at, four_at, masks_of, sets_row}

length-masks : (b : List ℕ) (k : ℕ) → length (masks_of b k) ≡ 1 + k
unfolding masks_of
length-masks b k = omega (arith, length-cat (λ i. field 8 b (10 + 10 * i) ∷ []) 1 k (λ i h. refl))

masks-more : (b : List ℕ) (k : ℕ) → masks_of b (k + 1) ≡ masks_of b k ++ (field 8 b (10 + 10 * k) ∷ [])
unfolding masks_of
masks-more b k = rw (cat-more (λ i. field 8 b (10 + 10 * i) ∷ []) k) refl

-- the loop that loads the masks
pub masks-hold : (b d : List ℕ) (x : ℕ) → 0 < length d → x ≡ 64 + count_field b → set d 0 x ≡ masks_of b 0 ++ drop (1 + 0) (set d 0 x)
unfolding masks_of cat
masks-hold b [] x h e = absurd (omega arith)
masks-hold b (y ∷ d) x h e = rw e refl

pub masks-again : (b m d : List ℕ) (k x : ℕ) → 1 + k < length d → m ≡ masks_of b k ++ drop (1 + k) d → x ≡ field 8 b (10 + 10 * k)
    → set m (1 + k) x ≡ masks_of b (k + 1) ++ drop (1 + (k + 1)) d
masks-again b m d k x h e ex =
    let n : 1 + (k + 1) ≡ 1 + k + 1 = omega arith in
    rw (e, ex, masks-more b k, n) (fill_one (masks_of b k) d (1 + k) (field 8 b (10 + 10 * k)) (length-masks b k) h)

pub masks-done : (b m d : List ℕ) (k x : ℕ) → k ≡ 49 → m ≡ masks_of b k ++ drop (1 + k) (set d 0 x) → m ≡ masks_of b 49 ++ drop 50 d
masks-done b m d k x q e =
    let g : m ≡ masks_of b 49 ++ drop 50 (set d 0 x) = rw q at e in
    g ∙ ap (λ (l : List ℕ). masks_of b 49 ++ l) (drop-set-lt 50 d 0 x (omega arith))

-- the count and the masks, and k numbers of pairs
unfoldable pub pairs_to : List ℕ → ℕ → List ℕ
unfolding masks_of
pairs_to b k = masks_of b 49 ++ cat (λ j. four_at b j ∷ []) k

length_pairs : (b : List ℕ) (k : ℕ) → length (pairs_to b k) ≡ 50 + k
unfolding pairs_to
length_pairs b k =
    omega (arith, length-append (masks_of b 49) (cat (λ j. four_at b j ∷ []) k), length-masks b 49, length-cat (λ j. four_at b j ∷ []) 1 k (λ i h. refl))

pairs-more : (b : List ℕ) (k : ℕ) → pairs_to b (k + 1) ≡ pairs_to b k ++ (four_at b k ∷ [])
unfolding pairs_to
pairs-more b k = rw (cat-more (λ j. four_at b j ∷ []) k) (sym (append_assoc (masks_of b 49) (cat (λ j. four_at b j ∷ []) k) (four_at b k ∷ [])))

-- the loop that loads the pairs
pub pairs-hold : (b m d : List ℕ) → m ≡ masks_of b 49 ++ drop 50 d → m ≡ pairs_to b 0 ++ drop (50 + 0) m
unfolding pairs_to cat
pairs-hold b m d e =
    let k : drop 50 m ≡ drop 50 d = ap (drop 50) e ∙ drop_at (masks_of b 49) (drop 50 d) 50 (length-masks b 49) in
    e ∙ ap₂ ◌++◌ (sym (append-nil (masks_of b 49))) (sym k)

pub pairs-again : (b m d : List ℕ) (k x : ℕ) → 50 + k < length d → m ≡ pairs_to b k ++ drop (50 + k) d → x ≡ four_at b k
    → set m (50 + k) x ≡ pairs_to b (k + 1) ++ drop (50 + (k + 1)) d
pairs-again b m d k x h e ex =
    let n : 50 + (k + 1) ≡ 50 + k + 1 = omega arith in
    rw (e, ex, pairs-more b k, n) (fill_one (pairs_to b k) d (50 + k) (four_at b k) (length_pairs b k) h)

row-whole : (b : List ℕ) → pairs_to b 12 ++ (pair_at b 48 ∷ []) ≡ sets_row b
unfolding pairs_to sets_row
row-whole b = append_assoc (masks_of b 49) (cat (λ j. four_at b j ∷ []) 12) (pair_at b 48 ∷ [])

pub pairs-done : (b m d : List ℕ) (k x : ℕ) → k ≡ 12 → length d ≡ 63 → m ≡ pairs_to b k ++ drop (50 + k) d → x ≡ pair_at b 48 → set m 62 x ≡ sets_row b
pairs-done b m d k x ek ed e ex =
    let g : m ≡ pairs_to b 12 ++ drop 62 d = rw ek at e in
    let n : drop 63 d ≡ [] = rw (← ed) (drop-length d) in
    ap₂ (λ (l : List ℕ) (y : ℕ). set l 62 y) g ex
    ∙ fill_one (pairs_to b 12) d 62 (pair_at b 48) (length_pairs b 12) (omega arith)
    ∙ ap (λ (l : List ℕ). (pairs_to b 12 ++ (pair_at b 48 ∷ [])) ++ l) n
    ∙ append-nil (pairs_to b 12 ++ (pair_at b 48 ∷ []))
    ∙ row-whole b

-- what was loaded
in-masks : (b : List ℕ) (i : ℕ) → i < 49 → get_or (masks_of b 49) (1 + i) 0 ≡ field 8 b (10 + 10 * i)
unfolding masks_of
in-masks b i l = let e : 1 + i ≡ suc i = omega arith in rw e (cat-at (λ j. field 8 b (10 + 10 * j)) 49 i l)

in_pairs : (b : List ℕ) (k : ℕ) → k < 12 → get_or (pairs_to b 12) (50 + k) 0 ≡ four_at b k
unfolding pairs_to
in_pairs b k l =
    ap (λ (n : ℕ). get_or (masks_of b 49 ++ cat (λ j. four_at b j ∷ []) 12) (n + k) 0) (sym (length-masks b 49))
    ∙ get_or-append-add (masks_of b 49) (cat (λ j. four_at b j ∷ []) 12) k 0 ∙ cat-at (four_at b) 12 k l

pub length-row : (b : List ℕ) → length (sets_row b) ≡ 63
length-row b = ap length (sym (row-whole b)) ∙ length-append (pairs_to b 12) (pair_at b 48 ∷ []) ∙ omega (arith, length_pairs b 12)

pub row_count : (b : List ℕ) → get_or (sets_row b) 0 0 ≡ 64 + count_field b
unfolding sets_row masks_of
row_count b = refl

pub row-mask : (b : List ℕ) (i : ℕ) → i < 49 → get_or (sets_row b) (1 + i) 0 ≡ field 8 b (10 + 10 * i)
unfolding sets_row
row-mask b i l =
    get_or-append (masks_of b 49) (cat (λ j. four_at b j ∷ []) 12 ++ (pair_at b 48 ∷ [])) 0 (1 + i) (omega (arith, length-masks b 49))
    ∙ in-masks b i l

pub row-four : (b : List ℕ) (k : ℕ) → k < 12 → get_or (sets_row b) (50 + k) 0 ≡ four_at b k
row-four b k l =
    ap (λ (m : List ℕ). get_or m (50 + k) 0) (sym (row-whole b))
    ∙ get_or-append (pairs_to b 12) (pair_at b 48 ∷ []) 0 (50 + k) (omega (arith, length_pairs b 12))
    ∙ in_pairs b k l

pub row_last : (b : List ℕ) → get_or (sets_row b) 62 0 ≡ pair_at b 48
row_last b = ap (λ (m : List ℕ). get_or m 62 0) (sym (row-whole b)) ∙ get_or_at (pairs_to b 12) (pair_at b 48) [] 0 62 (length_pairs b 12)
