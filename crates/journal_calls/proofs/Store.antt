-- Laws of a block as it is written: the parts, one after the other, and what is read from it.
use Prim.Native.Nat.{ℕ, suc, ◌+◌, ◌-◌, ◌*◌, ◌/◌, ◌≤◌, ◌<◌}
use mathlib.Core.Bool.{false, not}
use mathlib.Core.List.{List, [], ◌++◌, append_assoc}
use mathlib.Core.Path.{◌≡◌, refl, sym, ap, ap₂, ◌∙◌}
use native.Mathlib.Omega.{arith}
use lib.Dec.{eqb}
use lib.ListN.{length, get_or, take, drop, replicate, length-append, length-drop, length-replicate, get_or-replicate, get_or-append}
use lib.Seq.{sets, take_at, take-add, drop-drop, length-take-le, get_or-take, get_or-drop, get_or-append-add, ext_get_or}
use borrow.Author.Tests.{eq-eqb, eqb-true, not-false}
use Rattle.block.proofs.Seal.{length-seal, seal-field, seal-sealed, sealed-seal}
use Rattle.block.specs.Block.{check_s, check_t, seal}
use Rattle.ground.proofs.Pieces.{fill-sets}
use Rattle.ground.proofs.Some.{none_each, each_none}
use Rattle.journal_block.proofs.Block.{Right, all_right}
use Rattle.journal_calls.proofs.Copying.{call-bytes-long}
use Rattle.journal_block.specs.Block.{number_field, calls_field, miscounted, calls_unfilled, journal_block_check, calls_in, call_bytes, journal_body, journal_block}
use Rattle.le.proofs.Laws.{number_digits, digits-field, field_at}
use Rattle.le.specs.Le.{Bytes, digits}
use Rattle.std.specs.Prelude.{Ok}

abbrev heading : ℕ → List ℕ → List ℕ
heading i calls = digits 2 i ++ digits 2 (length calls / 4)

-- the head as two stores leave it
head_puts : (d : List ℕ) (i m : ℕ) → length d ≡ 512 → sets (sets d 0 (digits 2 i)) 2 (digits 2 m) ≡ (digits 2 i ++ digits 2 m) ++ drop 4 d
head_puts d i m h =
    ap (λ (x : List ℕ). sets x 2 (digits 2 m)) (fill-sets [] (digits 2 i) d 0 2 refl refl (omega arith))
    ∙ fill-sets (digits 2 i) (digits 2 m) d 2 2 refl refl (omega arith)

-- the parts together: h after the head, p after the calls
pub store-puts : (d calls h p : List ℕ) (i : ℕ) → length d ≡ 512 → length calls ≤ 500
    → h ≡ sets (sets d 0 (digits 2 i)) 2 (digits 2 (length calls / 4)) → p ≡ (take 4 h ++ call_bytes calls) ++ drop 504 h
    → seal (take 504 p) ≡ journal_block i calls
unfolding journal_block journal_body
store-puts d calls h p i l few eh ep =
    let f : take 4 h ≡ heading i calls = ap (take 4) (eh ∙ head_puts d i (length calls / 4) l) ∙ take_at (heading i calls) (drop 4 d) 4 refl in
    let n : length (heading i calls ++ call_bytes calls) ≡ 504 = length-append (heading i calls) (call_bytes calls) ∙ ap (λ (x : ℕ). 4 + x) (call-bytes-long calls few) in
    ap seal
    (ap (take 504) ep
    ∙ ap (λ (x : List ℕ). take 504 ((x ++ call_bytes calls) ++ drop 504 h)) f
    ∙ take_at (heading i calls ++ call_bytes calls) (drop 504 h) 504 n
    ∙ append_assoc (digits 2 i) (digits 2 (length calls / 4)) (call_bytes calls))

-- what is read from a block that was written
module _ (i : ℕ) (calls : List ℕ) (few : length calls ≤ 500) where
  pub body-long : length (journal_body i calls) ≡ 504
  unfolding journal_body
  body-long = omega (arith, call-bytes-long calls few)

  pub block-long : length (journal_block i calls) ≡ 512
  unfolding journal_block
  block-long = length-seal (journal_body i calls) body-long

  pub block-number : i < 65536 → number_field (journal_block i calls) ≡ i
  unfolding journal_block journal_body
  block-number h =
      seal-field 2 (journal_body i calls) 0 (omega (arith, body-long))
      ∙ field_at 2 [] (digits 2 i) (digits 2 (length calls / 4) ++ call_bytes calls) 0 refl refl
      ∙ number_digits 2 i h

  pub block-count : calls_field (journal_block i calls) ≡ length calls / 4
  unfolding journal_block journal_body
  block-count =
      seal-field 2 (journal_body i calls) 2 (omega (arith, body-long))
      ∙ field_at 2 (digits 2 i) (digits 2 (length calls / 4)) (call_bytes calls) 2 refl refl
      ∙ number_digits 2 (length calls / 4) (omega (arith, few))

  -- behind the head stand the calls, the zeros and the check
  rest : List ℕ
  rest = digits 4 (check_s (journal_body i calls)) ++ digits 4 (check_t (journal_body i calls))

  behind : drop 4 (journal_block i calls) ≡ call_bytes calls ++ rest
  unfolding journal_block journal_body seal rest
  behind = refl

  module _ (whole : 4 * (length calls / 4) ≡ length calls) where
    pub block-calls : calls_in (journal_block i calls) ≡ calls
    unfolding call_bytes
    block-calls =
        ap₂ (λ (c : ℕ) (x : List ℕ). take (4 * c) x) block-count behind
        ∙ ap (λ (n : ℕ). take n (call_bytes calls ++ rest)) whole
        ∙ ap (take (length calls)) (append_assoc calls (replicate (500 - length calls) 0) rest)
        ∙ take_at calls (replicate (500 - length calls) 0 ++ rest) (length calls) refl

    -- zeros stand behind the last call
    filler-zero : (j : ℕ) → j < 500 - length calls → get_or (journal_block i calls) (4 + length calls + j) 0 ≡ 0
    unfolding call_bytes
    filler-zero j h =
        let z : List ℕ = replicate (500 - length calls) 0 in
        let e : 4 + (length calls + j) ≡ 4 + length calls + j = omega arith in
        ap (λ (n : ℕ). get_or (journal_block i calls) n 0) (sym e)
        ∙ sym (get_or-drop 4 (journal_block i calls) (length calls + j) 0)
        ∙ ap (λ (x : List ℕ). get_or x (length calls + j) 0) (behind ∙ append_assoc calls z rest)
        ∙ get_or-append-add calls (z ++ rest) j 0
        ∙ get_or-append z rest 0 j (omega (arith, length-replicate {A = ℕ} (500 - length calls) 0, h))
        ∙ get_or-replicate (500 - length calls) j 0 0 h

    block-filled : calls_unfilled (journal_block i calls) ≡ false
    unfolding calls_unfilled
    block-filled =
        let c = calls_field (journal_block i calls) in
        let w : 4 * c ≡ length calls = ap (λ (x : ℕ). 4 * x) block-count ∙ whole in
        each_none (504 - (4 + 4 * c)) (λ j. not (eqb (get_or (journal_block i calls) (4 + 4 * c + j) 0) 0))
        (λ j h. ap not (eq-eqb _ 0 (ap (λ (n : ℕ). get_or (journal_block i calls) (4 + n + j) 0) w ∙ filler-zero j (omega (arith, w, h)))))

    pub block-sound : (k : ℕ) → i < 65536 → miscounted (eqb (suc i) k) (length calls / 4) ≡ false → journal_block_check k i (journal_block i calls) ≡ Ok tt
    unfolding journal_block
    block-sound k h m =
        all_right k i (journal_block i calls) (seal-sealed (journal_body i calls) body-long) (block-number h)
        (ap (miscounted (eqb (suc i) k)) block-count ∙ m) block-filled

-- a sound block is the one that writing its calls gives
module _ (k i : ℕ) (b : List ℕ) (hb : Bytes b) (len : length b ≡ 512) (r : Right k i b) (few : calls_field b ≤ 125) where
  pub calls-long : length (calls_in b) ≡ 4 * calls_field b
  calls-long = length-take-le (4 * calls_field b) (drop 4 b) (omega (arith, length-drop 4 b, len, few))

  -- the bytes behind the calls are the zeros
  zeros-behind : take (500 - 4 * calls_field b) (drop (4 + 4 * calls_field b) b) ≡ replicate (500 - 4 * calls_field b) 0
  unfolding calls_unfilled
  zeros-behind =
      let c = calls_field b in
      let from = 4 + 4 * c in
      let n = 500 - 4 * c in
      let l : length (take n (drop from b)) ≡ n = length-take-le n (drop from b) (omega (arith, length-drop from b, len, few)) in
      ext_get_or 0 (take n (drop from b)) (replicate n 0) (l ∙ sym (length-replicate n 0))
      (λ j h.
      let g : j < n = omega (arith, l, h) in
      let z = none_each (504 - from) (λ j. not (eqb (get_or b (from + j) 0) 0)) j r.filled (omega (arith, g, few)) in
      get_or-take n (drop from b) j 0 g ∙ get_or-drop from b j 0 ∙ eqb-true (get_or b (from + j) 0) 0 (not-false _ z) ∙ sym (get_or-replicate n j 0 0 g))

  body_back : journal_body i (calls_in b) ≡ take 504 b
  unfolding journal_body call_bytes
  body_back =
      let c = calls_field b in
      let q : length (calls_in b) / 4 ≡ c = omega (arith, calls-long) in
      let e : 4 * c + (500 - 4 * c) ≡ 500 = omega (arith, few) in
      ap₂ ◌++◌ (ap (digits 2) (sym r.place) ∙ digits-field 2 b 0 (omega (arith, len)) hb)
      (ap₂ ◌++◌ (ap (digits 2) q ∙ digits-field 2 b 2 (omega (arith, len)) hb)
      (ap (λ (n : ℕ). calls_in b ++ replicate (500 - n) 0) calls-long
      ∙ ap (λ (x : List ℕ). calls_in b ++ x) (sym zeros-behind ∙ ap (take (500 - 4 * c)) (sym (drop-drop (4 * c) 4 b)))
      ∙ sym (take-add (4 * c) (500 - 4 * c) (drop 4 b))
      ∙ ap (λ (n : ℕ). take n (drop 4 b)) e
      ∙ ap (take 500) (sym (drop-drop 2 2 b))))
      ∙ ap (λ (x : List ℕ). take 2 b ++ x) (sym (take-add 2 500 (drop 2 b)))
      ∙ sym (take-add 2 502 b)

  pub block_back : journal_block i (calls_in b) ≡ b
  unfolding journal_block
  block_back = ap seal body_back ∙ sealed-seal b hb len r.sums
