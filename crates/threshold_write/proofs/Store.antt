-- Laws of the functions that write a block of thresholds, part by part.
use Prim.Native.Nat.{ℕ, ◌+◌, ◌*◌, ◌%◌, ◌<◌}
use mathlib.Core.List.{List, ◌++◌, append_assoc, append-nil}
use mathlib.Core.Path.{◌≡◌, refl, sym, ap, ◌∙◌}
use native.Mathlib.Omega.{arith}
use lib.ListN.{length, take, drop, length-append, take-append-drop}
use lib.Seq.{sets, take_at, length-take-le}
use Rattle.block.proofs.Seal.{length-seal}
use Rattle.block.specs.Block.{seal}
use Rattle.ground.proofs.Pieces.{cat-more, length-cat, fill-sets}
use Rattle.ground.specs.Pieces.{cat}
use Rattle.le.proofs.Laws.{digits-plus, sets-append}
use Rattle.le.specs.Le.{digits}
use Rattle.site_block.specs.Block.{head}
use Rattle.threshold_sets.specs.Met.{ThresholdSets}
use Rattle.threshold_write.specs.Store.{set_bytes, set_places, sets_body, store_sets}

-- a number's two lowest bytes
head-mod : (i n x : ℕ) → head i n (x % 65536) ≡ head i n x
unfolding head
head-mod i n x = ap (λ (d : List ℕ). digits 2 i ++ (digits 2 n ++ (d ++ digits 2 0))) (sym (digits-plus 2 0 x))

pub length-places : (S : ThresholdSets) (k : ℕ) → length (set_places S k) ≡ 10 * k
unfolding set_places
length-places S k = length-cat (set_bytes S) 10 k (λ j h. refl)

length_front : (b : List ℕ) (S : ThresholdSets) (k : ℕ) → length b ≡ 512 → length (take 8 b ++ set_places S k) ≡ 8 + 10 * k
length_front b S k h = length-append (take 8 b) (set_places S k) ∙ rw (length-take-le 8 b (omega arith), length-places S k) refl

pub places-holds : (b : List ℕ) (S : ThresholdSets) → b ≡ (take 8 b ++ set_places S 0) ++ drop (8 + 10 * 0) b
unfolding set_places cat
places-holds b S = sym (ap (λ (x : List ℕ). x ++ drop 8 b) (append-nil (take 8 b)) ∙ take-append-drop 8 b)

places-more : (b : List ℕ) (S : ThresholdSets) (k : ℕ) → (take 8 b ++ set_places S k) ++ set_bytes S k ≡ take 8 b ++ set_places S (k + 1)
unfolding set_places
places-more b S k =
    append_assoc (take 8 b) (cat (set_bytes S) k) (set_bytes S k)
    ∙ ap (λ (x : List ℕ). take 8 b ++ x) (sym (cat-more (set_bytes S) k))

pub places-again : (c b : List ℕ) (S : ThresholdSets) (k : ℕ) → length b ≡ 512 → k < 49 → c ≡ (take 8 b ++ set_places S k) ++ drop (8 + 10 * k) b
    → sets c (8 + 10 * k) (set_bytes S k) ≡ (take 8 b ++ set_places S (k + 1)) ++ drop (8 + 10 * (k + 1)) b
places-again c b S k h l e =
    let n : 8 + 10 * (k + 1) ≡ 8 + 10 * k + 10 = omega arith in
    ap (λ (x : List ℕ). sets x (8 + 10 * k) (set_bytes S k)) e
    ∙ fill-sets (take 8 b ++ set_places S k) (set_bytes S k) b (8 + 10 * k) 10 (length_front b S k h) refl (omega arith)
    ∙ rw n (ap (λ (x : List ℕ). x ++ drop (8 + 10 * k + 10) b) (places-more b S k))

-- the filler
pub zeros-put : (b : List ℕ) → length b ≡ 512 → sets (sets b 498 (digits 2 0)) 500 (digits 4 0) ≡ (take 498 b ++ digits 6 0) ++ drop 504 b
zeros-put b h =
    sets-append (digits 2 0) (digits 4 0) b 498
    ∙ ap (λ (x : List ℕ). sets x 498 (digits 6 0)) (sym (take-append-drop 498 b))
    ∙ fill-sets (take 498 b) (digits 6 0) b 498 6 (length-take-le 498 b (omega arith)) refl (omega arith)

-- the parts together
head-front : (d : List ℕ) (i n many : ℕ) → take 8 (head i n many ++ drop 8 d) ≡ head i n many
unfolding head
head-front d i n many = refl

pub store-puts : (d : List ℕ) (S : ThresholdSets) (n i : ℕ) (h p z : List ℕ) → length h ≡ 512 → length p ≡ 512 → h ≡ head i n (S.count % 65536) ++ drop 8 d
    → p ≡ (take 8 h ++ set_places S 49) ++ drop 498 h → z ≡ (take 498 p ++ digits 6 0) ++ drop 504 p → seal (take 504 z) ≡ store_sets n i S
unfolding store_sets sets_body
store-puts d S n i h p z l m e f g =
    let a : take 8 h ≡ head i n S.count = ap (take 8) e ∙ head-front d i n (S.count % 65536) ∙ head-mod i n S.count in
    let b : take 498 p ≡ take 8 h ++ set_places S 49 = ap (take 498) f ∙ take_at (take 8 h ++ set_places S 49) (drop 498 h) 498 (length_front h S 49 l) in
    let k : length (take 498 p ++ digits 6 0) ≡ 504 = length-append (take 498 p) (digits 6 0) ∙ ap (λ (x : ℕ). x + 6) (length-take-le 498 p (omega arith)) in
    let c : take 504 z ≡ take 498 p ++ digits 6 0 = ap (take 504) g ∙ take_at (take 498 p ++ digits 6 0) (drop 504 p) 504 k in
    ap seal
    (c ∙ ap (λ (x : List ℕ). x ++ digits 6 0) (b ∙ ap (λ (x : List ℕ). x ++ set_places S 49) a)
    ∙ append_assoc (head i n S.count) (set_places S 49) (digits 6 0))

pub length-body : (n i : ℕ) (S : ThresholdSets) → length (sets_body n i S) ≡ 504
unfolding sets_body head
length-body n i S = omega (arith, length-append (set_places S 49) (digits 6 0), length-places S 49)

pub length-store : (n i : ℕ) (S : ThresholdSets) → length (store_sets n i S) ≡ 512
unfolding store_sets
length-store n i S = length-seal (sets_body n i S) (length-body n i S)
