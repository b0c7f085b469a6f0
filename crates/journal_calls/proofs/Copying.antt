-- Laws of the loops that copy a block's calls, and of the bytes that they stand in.
use Prim.Native.Nat.{ℕ, ◌+◌, ◌-◌, ◌≤◌, ◌<◌}
use mathlib.Core.List.{List, [], ◌∷◌, ◌++◌, append_assoc}
use mathlib.Core.Path.{◌≡◌, sym, ap, ap₂, ◌∙◌}
use native.Mathlib.Numerals.{add-one}
use native.Mathlib.Omega.{arith}
use lib.ListN.{length, get_or, take, drop, set, replicate, length-append, length-replicate, get_or-replicate, get_or-append}
use lib.Seq.{paste, paste-suc, drop-paste, take_at, take-suc, drop-drop, length-take-le, get_or-append-add}
use Rattle.ground.proofs.Pieces.{fill_one}
use Rattle.journal_block.specs.Block.{call_bytes}

-- a turn of a loop that copies
pub turn : (d room s : List ℕ) (at j x : ℕ) → room ≡ paste d at s j → at + j < length d → j < length s → x ≡ get_or s j 0
    → set room (at + j) x ≡ paste d at s (j + 1)
turn d room s at j x e h l q = rw (e, q, add-one j) (paste-suc d at s j 0 h l)

-- the same from the front
pub turn-front : (d room s : List ℕ) (j : ℕ) → room ≡ take j s ++ drop j d → j < length d → j < length s
    → set room j (get_or s j 0) ≡ take (j + 1) s ++ drop (j + 1) d
turn-front d room s j e h l =
    let q : take j s ++ (get_or s j 0 ∷ []) ≡ take (j + 1) s = rw (add-one j) (sym (take-suc s j 0 l)) in
    ap (λ (x : List ℕ). set x j (get_or s j 0)) e
    ∙ fill_one (take j s) d j (get_or s j 0) (length-take-le j s (omega arith)) h
    ∙ ap (λ (x : List ℕ). x ++ drop (j + 1) d) q

-- a copy that goes on where another ended: what stands before and behind it is as it was
module _ (d s : List ℕ) (n : ℕ) (h : 4 ≤ length d) (l : n ≤ length s) where
  pub paste-head : take 4 (paste d 4 s n) ≡ take 4 d
  paste-head =
      ap (take 4) (append_assoc (take 4 d) (take n s) (drop (4 + n) d))
      ∙ take_at (take 4 d) (take n s ++ drop (4 + n) d) 4 (length-take-le 4 d h)

  pub paste-rest : (m : ℕ) → 4 + n ≤ m → drop m (paste d 4 s n) ≡ drop m d
  paste-rest m g =
      let e : 4 + n + (m - (4 + n)) ≡ m = omega arith in
      ap (λ (k : ℕ). drop k (paste d 4 s n)) (sym e)
      ∙ sym (drop-drop (m - (4 + n)) (4 + n) (paste d 4 s n))
      ∙ ap (drop (m - (4 + n))) (drop-paste d 4 s n h l)
      ∙ drop-drop (m - (4 + n)) (4 + n) d
      ∙ ap (λ (k : ℕ). drop k d) e

  pub paste-again : paste d 4 s n ≡ paste (paste d 4 s n) 4 s n
  paste-again = sym (ap₂ (λ (x y : List ℕ). x ++ take n s ++ y) paste-head (drop-paste d 4 s n h l))

-- the calls of a block and the zeros behind them
module _ (calls : List ℕ) (few : length calls ≤ 500) where
  abbrev zeros : List ℕ
  zeros = replicate (500 - length calls) 0

  pub call-bytes-long : length (call_bytes calls) ≡ 500
  unfolding call_bytes
  call-bytes-long = omega (arith, length-append calls zeros, length-replicate {A = ℕ} (500 - length calls) 0, few)

  pub call-byte : (j : ℕ) → j < length calls → get_or calls j 0 ≡ get_or (call_bytes calls) j 0
  unfolding call_bytes
  call-byte j h = sym (get_or-append calls zeros 0 j h)

  pub filler-byte : (j : ℕ) → length calls ≤ j → j < 500 → 0 ≡ get_or (call_bytes calls) j 0
  unfolding call_bytes
  filler-byte j h l =
      let e : length calls + (j - length calls) ≡ j = omega arith in
      sym (ap (λ (i : ℕ). get_or (calls ++ zeros) i 0) (sym e) ∙ get_or-append-add calls zeros (j - length calls) 0
      ∙ get_or-replicate (500 - length calls) (j - length calls) 0 0 (omega arith))
