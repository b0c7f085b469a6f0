-- The block that is written of sound sets is sound: it holds them, and its filler is zero.
use Prim.Native.Nat.{ℕ, ◌+◌, ◌-◌, ◌*◌, ◌/◌, ◌%◌, ◌^◌, ◌≤◌, ◌<◌}
use mathlib.Core.Bool.{true, false, not}
use mathlib.Core.List.{List, [], ◌∷◌, ◌++◌, append_assoc}
use mathlib.Core.Logic.{⊎_elim}
use mathlib.Core.Path.{◌≡◌, refl, sym, ap, ◌∙◌}
use native.Mathlib.Omega.{arith}
use lib.Dec.{eqb, ltb}
use lib.ListN.{length, get_or, length-append, get_or-append}
use lib.Seq.{get_or_at, get_or-append-add}
use borrow.Author.Tests.{eq-eqb, ltb-true, ltb-false}
use Rattle.block.proofs.Seal.{seal-field, seal-sealed}
use Rattle.block.specs.Block.{seal, sealed, check_s, check_t}
use Rattle.ground.proofs.Logic.{cases}
use Rattle.ground.proofs.Pieces.{length-cat, cat-split}
use Rattle.ground.proofs.Some.{each_none}
use Rattle.ground.specs.Pieces.{cat}
use Rattle.le.proofs.Laws.{number_digits, field-front, field_at}
use Rattle.le.specs.Le.{digits, field}
use Rattle.site_block.specs.Block.{site_field, sites_field, count_field, zero_field, head, misheaded}
use Rattle.threshold_block.specs.Block.{sets_in, sets_unfilled}
use Rattle.threshold_reading.proofs.Steps.{zero-at}
use Rattle.threshold_sets.proofs.Alike.{Agree}
use Rattle.threshold_sets.specs.Met.{ThresholdSets}
use Rattle.threshold_sound.proofs.Row.{Unused}
use Rattle.threshold_write.proofs.Store.{length-body}
use Rattle.threshold_write.specs.Store.{set_bytes, set_places, sets_body, store_sets}

grouped : (d a b r z s : List ℕ) → (d ++ ((a ++ (b ++ r)) ++ z)) ++ s ≡ (d ++ a) ++ (b ++ ((r ++ z) ++ s))
grouped d a b r z s = simp append_assoc

filled : (d a z s : List ℕ) → (d ++ (a ++ z)) ++ s ≡ (d ++ a) ++ (z ++ s)
filled d a z s = simp append_assoc

no_bytes : (a b c r : ℕ) → a ≡ 0 → b ≡ 0 → c ≡ 0 → get_or (digits 1 a ++ (digits 1 b ++ digits 8 c)) r 0 ≡ 0
no_bytes a b c r e f g =
    ap (λ (x : ℕ). get_or (digits 1 x ++ (digits 1 b ++ digits 8 c)) r 0) e
    ∙ ap (λ (x : ℕ). get_or (digits 1 0 ++ (digits 1 x ++ digits 8 c)) r 0) f
    ∙ ap (λ (x : ℕ). get_or (digits 1 0 ++ (digits 1 0 ++ digits 8 x)) r 0) g
    ∙ zero-at 10 r

module _ (n v : ℕ) (S : ThresholdSets) where
  -- the head
  store-field : (w at : ℕ) → at + w ≤ 504 → field w (store_sets n v S) at ≡ field w (sets_body n v S) at
  unfolding store_sets
  store-field w at h = seal-field w (sets_body n v S) at (rw (length-body n v S) h)

  head-field : (at : ℕ) → at + 2 ≤ 8 → field 2 (store_sets n v S) at ≡ field 2 (head v n S.count) at
  unfolding sets_body head
  head-field at h = store-field 2 at (omega (arith, h)) ∙ field-front 2 (head v n S.count) (set_places S 49 ++ digits 6 0) at h

  store-site : v < 65536 → site_field (store_sets n v S) ≡ v
  unfolding field head
  store-site h = head-field 0 (omega arith) ∙ number_digits 2 v h

  store-sites : n < 65536 → sites_field (store_sets n v S) ≡ n
  unfolding field head
  store-sites h = head-field 2 (omega arith) ∙ number_digits 2 n h

  store-count : S.count < 65536 → count_field (store_sets n v S) ≡ S.count
  unfolding field head
  store-count h = head-field 4 (omega arith) ∙ number_digits 2 S.count h

  store-zero : zero_field (store_sets n v S) ≡ 0
  unfolding field head
  store-zero = head-field 6 (omega arith) ∙ number_digits 2 0 (omega arith)

  pub store-headed : v < 65536 → n < 65536 → misheaded n v (store_sets n v S) ≡ false
  unfolding misheaded
  store-headed h g =
      rw (eq-eqb (site_field (store_sets n v S)) v (store-site h), eq-eqb (sites_field (store_sets n v S)) n (store-sites g), eq-eqb (zero_field (store_sets n v S)) 0 store-zero) refl

  pub store-sealed : sealed (store_sets n v S) ≡ true
  unfolding store_sets
  store-sealed = seal-sealed (sets_body n v S) (length-body n v S)

  -- its sets, one by one
  front : ℕ → List ℕ
  front i = head v n S.count ++ cat (set_bytes S) i

  length_before : (i : ℕ) → length (front i) ≡ 8 + 10 * i
  unfolding front head
  length_before i = length-append (head v n S.count) (cat (set_bytes S) i) ∙ ap (λ (x : ℕ). 8 + x) (length-cat (set_bytes S) 10 i (λ j h. refl))

  split : (i : ℕ) → i < 49 → (q : List ℕ) × (store_sets n v S ≡ front i ++ (set_bytes S i ++ q))
  unfolding store_sets sets_body set_places seal front
  split i l =
      let s = cat-split (set_bytes S) 49 i l in
      let z = digits 4 (check_s (sets_body n v S)) ++ digits 4 (check_t (sets_body n v S)) in (
        (s.0 ++ digits 6 0) ++ z,
        ap (λ (x : List ℕ). (head v n S.count ++ (x ++ digits 6 0)) ++ z) s.1 ∙ grouped (head v n S.count) (cat (set_bytes S) i) (set_bytes S i) s.0 (digits 6 0) z,
      )

  behind : (q : List ℕ) × (store_sets n v S ≡ front 49 ++ (digits 6 0 ++ q))
  unfolding store_sets sets_body set_places seal front
  behind =
      let z = digits 4 (check_s (sets_body n v S)) ++ digits 4 (check_t (sets_body n v S)) in
      (z, filled (head v n S.count) (cat (set_bytes S) 49) (digits 6 0) z)

  module _ (i : ℕ) (l : i < 49) where
    store-threshold : get_or (store_sets n v S) (8 + 10 * i) 0 ≡ S.threshold i % 256
    store-threshold = let s = split i l in ap (λ (x : List ℕ). get_or x (8 + 10 * i) 0) s.1 ∙ get_or_at (front i) _ _ 0 (8 + 10 * i) (length_before i)

    store-inner : get_or (store_sets n v S) (9 + 10 * i) 0 ≡ S.inner i % 256
    store-inner =
        let s = split i l in
        let p = front i ++ (S.threshold i % 256 ∷ []) in
        let y = digits 8 (S.plain i) ++ s.0 in
        let k : length p ≡ 9 + 10 * i = length-append (front i) (S.threshold i % 256 ∷ []) ∙ (let e = length_before i in omega (arith, e)) in
        ap (λ (x : List ℕ). get_or x (9 + 10 * i) 0) (s.1 ∙ sym (append_assoc (front i) (S.threshold i % 256 ∷ []) ((S.inner i % 256) ∷ y)))
        ∙ get_or_at p (S.inner i % 256) y 0 (9 + 10 * i) k

    store-plain : S.plain i < 2 ^ 64 → field 8 (store_sets n v S) (10 + 10 * i) ≡ S.plain i
    store-plain h =
        let s = split i l in
        let two = (S.threshold i % 256) ∷ (S.inner i % 256) ∷ [] in
        let k : length (front i ++ two) ≡ 10 + 10 * i = length-append (front i) two ∙ (let e = length_before i in omega (arith, e)) in
        ap (λ (x : List ℕ). field 8 x (10 + 10 * i)) (s.1 ∙ sym (append_assoc (front i) two (digits 8 (S.plain i) ++ s.0)))
        ∙ field_at 8 (front i ++ two) (digits 8 (S.plain i)) s.0 (10 + 10 * i) k refl
        ∙ number_digits 8 (S.plain i) h

    -- ten bytes of a set that is not there
    store-unused : Unused S i → (r : ℕ) → r < 10 → get_or (store_sets n v S) (8 + 10 * i + r) 0 ≡ 0
    store-unused f r h =
        let s = split i l in
        let z : get_or (set_bytes S i) r 0 ≡ 0 = no_bytes (S.threshold i) (S.inner i) (S.plain i) r f.0 f.1 f.2 in
        ap (λ (x : List ℕ). get_or x (8 + 10 * i + r) 0) s.1
        ∙ ap (λ (x : ℕ). get_or (front i ++ (set_bytes S i ++ s.0)) (x + r) 0) (sym (length_before i))
        ∙ get_or-append-add (front i) (set_bytes S i ++ s.0) r 0
        ∙ get_or-append (set_bytes S i) s.0 0 r h ∙ z

  store-filler : (r : ℕ) → r < 6 → get_or (store_sets n v S) (498 + r) 0 ≡ 0
  store-filler r h =
      let s = behind in
      ap (λ (x : List ℕ). get_or x (498 + r) 0) s.1
      ∙ ap (λ (x : ℕ). get_or (front 49 ++ (digits 6 0 ++ s.0)) (x + r) 0) (sym (length_before 49))
      ∙ get_or-append-add (front 49) (digits 6 0 ++ s.0) r 0
      ∙ get_or-append (digits 6 0) s.0 0 r h ∙ zero-at 6 r

  -- all of it
  pub store-sets : S.count < 65536 → ((i : ℕ) → i < 49 → (S.threshold i < 256) × (S.inner i < 256) × (S.plain i < 2 ^ 64)) → Agree 49 S (sets_in (store_sets n v S))
  store-sets c f = record {
    count-alike = sym (store-count c);
    threshold-alike = λ i l. let e = store-threshold i l in let g = (f i l).0 in omega (arith, e, g);
    inner-alike = λ i l. let e = store-inner i l in let g = (f i l).1 in omega (arith, e, g);
    plain-alike = λ i l. sym (store-plain i l (f i l).2);
  }

  pub store-filled : S.count < 65536 → S.count ≤ 49 → ((i : ℕ) → S.count ≤ i → i < 49 → Unused S i) → sets_unfilled (store_sets n v S) ≡ false
  unfolding sets_unfilled
  store-filled c few f =
      let from = 8 + 10 * count_field (store_sets n v S) in
      let e = store-count c in
      each_none (504 - from) (λ j. not (eqb (get_or (store_sets n v S) (from + j) 0) 0))
      (λ j l. ap not (eq-eqb (get_or (store_sets n v S) (from + j) 0) 0
      (⊎_elim
      (λ y. let h = ltb-true (from + j) 498 y in
      let i = (from + j - 8) / 10 in
      let k : 8 + 10 * i + (from + j - 8) % 10 ≡ from + j = omega arith in
      ap (λ (x : ℕ). get_or (store_sets n v S) x 0) (sym k)
      ∙ store-unused i (omega (arith, h)) (f i (omega (arith, e, h)) (omega (arith, h))) ((from + j - 8) % 10) (omega arith))
      (λ y. let h = ltb-false (from + j) 498 y in
      let k : 498 + (from + j - 498) ≡ from + j = omega (arith, h) in
      ap (λ (x : ℕ). get_or (store_sets n v S) x 0) (sym k) ∙ store-filler (from + j - 498) (omega (arith, h, l)))
      (cases (ltb (from + j) 498)))))
