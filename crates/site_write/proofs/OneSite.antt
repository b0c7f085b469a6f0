-- One site there and back: its block is read as its 63 numbers, and a block that passes is written again as it was.
use Prim.Native.Nat.{ℕ, suc, ◌+◌, ◌*◌, ◌^◌, ◌≤◌, ◌<◌}
use mathlib.Core.Bool.{true}
use mathlib.Core.List.{List, [], ◌∷◌, ◌++◌, append_assoc}
use mathlib.Core.Path.{◌≡◌, refl, sym, ap, ap₂, ◌∙◌}
use native.Mathlib.Omega.{arith}
use lib.ListN.{length, get_or, take, drop, length-append}
use lib.Seq.{take_all, take-add, drop-drop}
use Rattle.block.proofs.Seal.{seal-field, seal-sealed, sealed-seal}
use Rattle.block.specs.Block.{seal, sealed}
use Rattle.ground.proofs.Pieces.{length-cat, cat-ext, cat-split, cat-parts, cat-elements}
use Rattle.ground.specs.Pieces.{cat, part}
use Rattle.site_block.specs.Block.{site_field, sites_field, count_field, zero_field, slice_field, block_check, load, head, places, body, store}
use Rattle.site_block.proofs.Block.{row-site, right-head}
use Rattle.site_block.proofs.Load.{load-count, load-slice}
use Rattle.site_write.proofs.Store.{length-body}
use Rattle.le.proofs.Laws.{number_digits, digits-field, field-front, field_at}
use Rattle.le.specs.Le.{Bytes, digits, field}
use Rattle.rows.specs.Site.{count, slice, site_check}

-- the fields of a block that was written

store-field : (w n i : ℕ) (m : List ℕ) (at : ℕ) → at + w ≤ 504 → field w (store n i m) at ≡ field w (body n i m) at
unfolding store
store-field w n i m at h = seal-field w (body n i m) at (rw (length-body n i m) h)

head-field : (n i : ℕ) (m : List ℕ) (at : ℕ) → at + 2 ≤ 8 → field 2 (store n i m) at ≡ field 2 (head i n (count m)) at
unfolding body head
head-field n i m at h = store-field 2 n i m at (omega arith) ∙ field-front 2 (head i n (count m)) (places m 62) at h

module _ (n i : ℕ) (m : List ℕ) where
  store-site : i < 65536 → site_field (store n i m) ≡ i
  unfolding field head
  store-site h = head-field n i m 0 (omega arith) ∙ number_digits 2 i h

  store-sites : n < 65536 → sites_field (store n i m) ≡ n
  unfolding field head
  store-sites h = head-field n i m 2 (omega arith) ∙ number_digits 2 n h

  store-count : count m < 65536 → count_field (store n i m) ≡ count m
  unfolding field head
  store-count h = head-field n i m 4 (omega arith) ∙ number_digits 2 (count m) h

  store-zero : zero_field (store n i m) ≡ 0
  unfolding field head
  store-zero = head-field n i m 6 (omega arith) ∙ number_digits 2 0 (omega arith)

  store-slice : (k : ℕ) → k < 62 → slice m k < 2 ^ 64 → slice_field (store n i m) k ≡ slice m k
  unfolding body head places
  store-slice k l h =
      let f : ℕ → List ℕ = λ j. digits 8 (slice m j) in
      let s = cat-split f 62 k l in
      let d : List ℕ = head i n (count m) in
      let e : body n i m ≡ (d ++ cat f k) ++ (f k ++ s.0) =
      ap (λ (x : List ℕ). d ++ x) s.1 ∙ sym (append_assoc d (cat f k) (f k ++ s.0)) in
      let p : length (d ++ cat f k) ≡ 8 + 8 * k = length-append d (cat f k) ∙ ap (λ (x : ℕ). 8 + x) (length-cat f 8 k (λ j g. refl)) in
      store-field 8 n i m (8 + 8 * k) (omega arith)
      ∙ ap (λ (x : List ℕ). field 8 x (8 + 8 * k)) e
      ∙ field_at 8 (d ++ cat f k) (f k) s.0 (8 + 8 * k) p refl
      ∙ number_digits 8 (slice m k) h

  -- its check
  store-sealed : sealed (store n i m) ≡ true
  unfolding store
  store-sealed = seal-sealed (body n i m) (length-body n i m)

-- 63 numbers are their count and their places
all-places : (m : List ℕ) → length m ≡ 63 → count m ∷ cat (λ k. slice m k ∷ []) 62 ≡ m
all-places [] h = absurd (omega arith)
all-places (x ∷ m) h =
    ap (λ (t : List ℕ). x ∷ t)
    (cat-ext (λ k. slice (x ∷ m) k ∷ []) (λ k. get_or m k 0 ∷ []) 62 (λ k g. let e : 1 + k ≡ suc k = omega arith in rw e refl)
    ∙ cat-elements m 62 (omega arith)
    ∙ take_all 62 m (omega arith))

-- what was written is read
module _ (n i : ℕ) (m : List ℕ) (l : length m ≡ 63) (w : (k : ℕ) → get_or m k 0 < 2 ^ 64) (h : count m < 65536) where
  pub load_store : load (store n i m) ≡ m
  unfolding load
  load_store =
      rw (store-count n i m h)
      (ap (λ (t : List ℕ). count m ∷ t)
      (cat-ext (λ k. slice_field (store n i m) k ∷ []) (λ k. slice m k ∷ []) 62 (λ k g. ap (λ (x : ℕ). x ∷ []) (store-slice n i m k g (w (1 + k)))))
      ∙ all-places m l)

  pub store-check : (place : ℕ) → i < 65536 → n < 65536 → block_check n i place (store n i m) ≡ site_check n i place m
  store-check place hi hn =
      right-head n i place (store n i m) (store-sealed n i m) (store-site n i m hi) (store-sites n i m hn) (store-zero n i m)
      ∙ row-site n i place (store n i m) ∙ ap (site_check n i place) load_store

-- what was read is written

module _ (n i : ℕ) (b : List ℕ) (hb : Bytes b) (len : length b ≡ 512) (pi : site_field b ≡ i) (pn : sites_field b ≡ n) (pz : zero_field b ≡ 0) where
  two : (at : ℕ) → at + 2 ≤ 512 → digits 2 (field 2 b at) ≡ take 2 (drop at b)
  two at h = digits-field 2 b at (rw len h) hb

  head-load : head i n (count_field b) ≡ take 8 b
  unfolding head
  head-load =
      ap₂ ◌++◌ (ap (digits 2) (sym pi) ∙ two 0 (omega arith))
      (ap₂ ◌++◌ (ap (digits 2) (sym pn) ∙ two 2 (omega arith)) (ap₂ ◌++◌ (two 4 (omega arith)) (ap (digits 2) (sym pz) ∙ two 6 (omega arith))))
      ∙ (sym (take-add 2 6 b ∙ ap (λ (x : List ℕ). take 2 b ++ x)
      (take-add 2 4 (drop 2 b) ∙ ap (λ (x : List ℕ). take 2 (drop 2 b) ++ x)
      (rw (drop-drop 2 2 b) (take-add 2 2 (drop 4 b) ∙ ap (λ (x : List ℕ). take 2 (drop 4 b) ++ take 2 x) (drop-drop 2 4 b))))))

  places-load : places (load b) 62 ≡ take 496 (drop 8 b)
  unfolding places
  places-load =
      cat-ext (λ k. digits 8 (slice (load b) k)) (λ k. part 8 k (drop 8 b)) 62
      (λ k l. ap (digits 8) (load-slice b k l) ∙ digits-field 8 b (8 + 8 * k) (rw len (omega arith)) hb ∙ ap (take 8) (sym (drop-drop (8 * k) 8 b)))
      ∙ cat-parts 8 62 (drop 8 b)

  body-load : body n i (load b) ≡ take 504 b
  unfolding body
  body-load =
      ap₂ ◌++◌ (ap (head i n) (load-count b) ∙ head-load) places-load
      ∙ sym (take-add 8 496 b)

  pub store-load : sealed b ≡ true → store n i (load b) ≡ b
  unfolding store
  store-load s = ap seal body-load ∙ sealed-seal b hb len s
