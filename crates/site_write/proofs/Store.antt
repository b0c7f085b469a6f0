-- Laws of the functions that write a block, part by part.
use Prim.Native.Nat.{ℕ, ◌+◌, ◌*◌, ◌<◌}
use mathlib.Core.List.{List, [], ◌++◌, append_assoc, append-nil}
use mathlib.Core.Path.{◌≡◌, refl, sym, ap, ◌∙◌}
use native.Mathlib.Omega.{arith}
use lib.ListN.{length, take, drop, length-append, take-append-drop}
use lib.Seq.{sets, take_at, length-take-le}
use Rattle.block.proofs.Seal.{length-seal}
use Rattle.block.specs.Block.{seal}
use Rattle.ground.proofs.Pieces.{cat-more, length-cat, fill-sets}
use Rattle.ground.specs.Pieces.{cat}
use Rattle.site_block.specs.Block.{head, places, body, store}
use Rattle.le.specs.Le.{digits}
use Rattle.rows.specs.Site.{count, slice}

pub head_puts : (d : List ℕ) (i n many : ℕ) → length d ≡ 512
    → sets (sets (sets (sets d 0 (digits 2 i)) 2 (digits 2 n)) 4 (digits 2 many)) 6 (digits 2 0) ≡ head i n many ++ drop 8 d
unfolding head
head_puts d i n many h =
    ap (λ (x : List ℕ). sets (sets (sets x 2 (digits 2 n)) 4 (digits 2 many)) 6 (digits 2 0)) (fill-sets [] (digits 2 i) d 0 2 refl refl (omega arith))
    ∙ ap (λ (x : List ℕ). sets (sets x 4 (digits 2 many)) 6 (digits 2 0)) (fill-sets (digits 2 i) (digits 2 n) d 2 2 refl refl (omega arith))
    ∙ ap (λ (x : List ℕ). sets x 6 (digits 2 0)) (fill-sets (digits 2 i ++ digits 2 n) (digits 2 many) d 4 2 refl refl (omega arith))
    ∙ fill-sets ((digits 2 i ++ digits 2 n) ++ digits 2 many) (digits 2 0) d 6 2 refl refl (omega arith)

-- the loop that writes the places

length-places : (m : List ℕ) (k : ℕ) → length (places m k) ≡ 8 * k
unfolding places
length-places m k = length-cat (λ j. digits 8 (slice m j)) 8 k (λ j h. refl)

length_front : (b m : List ℕ) (k : ℕ) → length b ≡ 512 → length (take 8 b ++ places m k) ≡ 8 + 8 * k
length_front b m k h = length-append (take 8 b) (places m k) ∙ rw (length-take-le 8 b (omega arith), length-places m k) refl

pub places-holds : (b m : List ℕ) → b ≡ (take 8 b ++ places m 0) ++ drop (8 + 8 * 0) b
unfolding places cat
places-holds b m = sym (ap (λ (x : List ℕ). x ++ drop 8 b) (append-nil (take 8 b)) ∙ take-append-drop 8 b)

places-more : (b m : List ℕ) (k : ℕ) → (take 8 b ++ places m k) ++ digits 8 (slice m k) ≡ take 8 b ++ places m (k + 1)
unfolding places
places-more b m k =
    append_assoc (take 8 b) (cat (λ j. digits 8 (slice m j)) k) (digits 8 (slice m k))
    ∙ ap (λ (x : List ℕ). take 8 b ++ x) (sym (cat-more (λ j. digits 8 (slice m j)) k))

pub places-again : (c b m : List ℕ) (k : ℕ) → length b ≡ 512 → k < 62 → c ≡ (take 8 b ++ places m k) ++ drop (8 + 8 * k) b
    → sets c (8 + 8 * k) (digits 8 (slice m k)) ≡ (take 8 b ++ places m (k + 1)) ++ drop (8 + 8 * (k + 1)) b
places-again c b m k h l e =
    let n : 8 + 8 * (k + 1) ≡ 8 + 8 * k + 8 = omega arith in
    ap (λ (x : List ℕ). sets x (8 + 8 * k) (digits 8 (slice m k))) e
    ∙ fill-sets (take 8 b ++ places m k) (digits 8 (slice m k)) b (8 + 8 * k) 8 (length_front b m k h) refl (omega arith)
    ∙ rw n (ap (λ (x : List ℕ). x ++ drop (8 + 8 * k + 8) b) (places-more b m k))

-- the parts together

head-front : (d : List ℕ) (i n many : ℕ) → take 8 (head i n many ++ drop 8 d) ≡ head i n many
unfolding head
head-front d i n many = refl

pub store-puts : (d m : List ℕ) (n i : ℕ) (h p : List ℕ) → length h ≡ 512 → h ≡ head i n (count m) ++ drop 8 d
    → p ≡ (take 8 h ++ places m 62) ++ drop 504 h → seal (take 504 p) ≡ store n i m
unfolding store body
store-puts d m n i h p l e f =
    let t : take 504 p ≡ take 8 h ++ places m 62 = ap (take 504) f ∙ take_at (take 8 h ++ places m 62) (drop 504 h) 504 (length_front h m 62 l) in
    let g : take 8 h ≡ head i n (count m) = ap (take 8) e ∙ head-front d i n (count m) in
    ap seal (t ∙ ap (λ (x : List ℕ). x ++ places m 62) g)

pub length-body : (n i : ℕ) (m : List ℕ) → length (body n i m) ≡ 504
unfolding body head
length-body n i m = omega (arith, length-places m 62)

pub length-store : (n i : ℕ) (m : List ℕ) → length (store n i m) ≡ 512
unfolding store
length-store n i m = length-seal (body n i m) (length-body n i m)
