-- Laws of pieces: a text is its first piece, and what stands behind the byte that stops it.
use Prim.Native.Nat.{ℕ, suc, ◌+◌, ◌-◌, ◌≤◌, ◌<◌}
use mathlib.Core.Bool.{Bool, true, false, cond}
use mathlib.Core.List.{List, [], ◌∷◌}
use mathlib.Core.Logic.{⊎_elim}
use mathlib.Core.Path.{◌≡◌, refl, sym, ap, ◌∙◌}
use native.Mathlib.Nat.{eq-or-lt_of_le}
use native.Mathlib.Numerals.{add-one}
use native.Mathlib.Omega.{arith}
use lib.Dec.{ltb}
use lib.ListN.{length, get_or, take, drop, length-drop}
use lib.Seq.{drop-cons, drop-length, drop-drop, drop-nil, take-length, take-take, length-take-le, get_or-take, get_or-drop}
use borrow.Author.Tests.{lt-ltb, le-ltb, eq-eqb, ne_eqb}
use Rattle.ground.proofs.Logic.{cases}
use Rattle.call_words.specs.Grammar.{hear_all, closed}
use Rattle.call_words.specs.declared.Heard.{Heard}
use Rattle.call_words.specs.declared.Line.{Line}
use Rattle.calls_text.specs.Inner.{hear_piece, line_at}
use Rattle.calls_text.specs.Pieces.{stops, upto, onto, pieces, filled, says, unreturned, line_of}
use Rattle.calls_text.specs.Reading.{fault, Grown, with_line, then_on, Reading, reading}
use Rattle.call_words.specs.declared.Wanted.{Wanted}
use Rattle.std.specs.Prelude.{Ok, Err}

-- behind the end there is nothing
pub drop_past : (l : List ℕ) (i : ℕ) → length l ≤ i → drop i l ≡ []
drop_past l i h = ap (λ (k : ℕ). drop k l) (let e : i ≡ length l + (i - length l) = omega arith in e) ∙ sym (drop-drop (i - length l) (length l) l) ∙ rw (drop-length l) (drop-nil (i - length l))

module _ (stop : ℕ → Bool) where
  pub upto_le : (l : List ℕ) → upto stop l ≤ length l
  upto_le [] = omega arith
  upto_le (b ∷ t) = ⊎_elim (λ e. rw e (omega arith)) (λ e. rw e (omega (arith, upto_le t))) (cases (stop b))

  pub upto-inside : (l : List ℕ) (at end : ℕ) → at ≤ length l → end ≡ at + upto stop (drop at l) → (at ≤ end) × (end ≤ length l)
  upto-inside l at end h e = let u = upto_le (drop at l) in let d = length-drop at l in (omega arith, omega arith)

  -- one byte more
  pub stop-here : (l : List ℕ) (i : ℕ) → i < length l → stop (get_or l i 0) ≡ true → upto stop (drop i l) ≡ 0
  stop-here l i h e = rw (drop-cons l i 0 h, e) refl

  pub stop-later : (l : List ℕ) (i : ℕ) → i < length l → stop (get_or l i 0) ≡ false → upto stop (drop i l) ≡ suc (upto stop (drop (i + 1) l))
  stop-later l i h e = rw (add-one i, drop-cons l i 0 h, e) refl

  pub stop-end : (l : List ℕ) (i : ℕ) → length l ≤ i → upto stop (drop i l) ≡ 0
  stop-end l i h = rw (drop_past l i h) refl

  -- the first piece, and the others
  pub pieces-cut : (l : List ℕ) → upto stop l < length l → pieces stop l ≡ take (upto stop l) l ∷ pieces stop (drop (suc (upto stop l)) l)
  pieces-cut [] h = absurd (omega arith)
  pieces-cut (b ∷ t) h =
      ⊎_elim (λ e. rw e refl) (λ e. let k = rw e at h in rw e (ap (onto b) (pieces-cut t (omega arith)))) (cases (stop b))

  pub pieces_whole : (l : List ℕ) → upto stop l ≡ length l → pieces stop l ≡ l ∷ []
  pieces_whole [] h = refl
  pieces_whole (b ∷ t) h =
      ⊎_elim (λ e. let k = rw e at h in absurd (omega arith)) (λ e. let k = rw e at h in rw e (ap (onto b) (pieces_whole t (omega arith)))) (cases (stop b))

-- a piece is heard, and then the others
heard-piece : (s : Heard) (p : List ℕ) (ps : List (List ℕ)) → hear_all s (filled (p ∷ ps)) ≡ hear_all (hear_piece s p) (filled ps)
heard-piece s [] ps = refl
heard-piece s (b ∷ w) ps = refl

heard-next : (stop : ℕ → Bool) (s : Heard) (l : List ℕ)
    → hear_all s (filled (pieces stop l)) ≡ hear_all (hear_piece s (take (upto stop l) l)) (filled (pieces stop (drop (suc (upto stop l)) l)))
heard-next stop s l =
    ⊎_elim
    (λ e. rw (pieces_whole stop l e, e, take-length l, drop_past l (suc (length l)) (omega arith)) (heard-piece s l []))
    (λ h. rw (pieces-cut stop l h) (heard-piece s (take (upto stop l) l) (pieces stop (drop (suc (upto stop l)) l))))
    (eq-or-lt_of_le (upto_le stop l))

-- the piece from a place on, and what stands behind the byte that stops it
behind : (stop : ℕ → Bool) (l : List ℕ) (at end : ℕ) → end ≡ at + upto stop (drop at l) → drop (end + 1) l ≡ drop (suc (upto stop (drop at l))) (drop at l)
behind stop l at end e =
    let k : end + 1 ≡ at + suc (upto stop (drop at l)) = omega arith in
    ap (λ (k : ℕ). drop k l) k ∙ sym (drop-drop (suc (upto stop (drop at l))) at l)

wide : (u at end : ℕ) → end ≡ at + u → u ≡ end - at
wide u at end e = omega arith

pub heard-more : (stop : ℕ → Bool) (s : Heard) (l : List ℕ) (at end : ℕ) → end ≡ at + upto stop (drop at l)
    → hear_all s (filled (pieces stop (drop at l))) ≡ hear_all (hear_piece s (take (end - at) (drop at l))) (filled (pieces stop (drop (end + 1) l)))
heard-more stop s l at end e = rw (behind stop l at end e, ← wide (upto stop (drop at l)) at end e) (heard-next stop s (drop at l))

pub heard-end : (stop : ℕ → Bool) (s : Heard) (l : List ℕ) (at : ℕ) → length l ≤ at → hear_all s (filled (pieces stop (drop at l))) ≡ closed s
heard-end stop s l at h = rw (drop_past l at h) refl

-- the bytes of a line
module _ (text : List ℕ) (at end : ℕ) (h : at ≤ end) where
  pub last_line : end ≡ length text → says (take (end - at) (drop at text)) ≡ line_at text at end
  last_line e = rw (le-ltb end (length text) (omega arith)) refl

  -- nor has an empty line one that is cut off, and it says nothing
  pub no_line : end ≡ at → Line.Empty ≡ line_at text at end
  unfolding unreturned says closed
  no_line e = let z : end - at ≡ 0 = omega arith in rw z (ap says (either (ltb end (length text))))
    where
      either : (b : Bool) → [] ≡ cond {A = List ℕ} b [] []
      either true = refl
      either false = refl

  module _ (k : end < length text) where
    long : length (take (end - at) (drop at text)) ≡ end - at
    long = length-take-le (end - at) (drop at text) (omega (arith, length-drop at text))

    module _ (n : at < end) where
      last_byte : get_or (take (end - at) (drop at text)) (end - at - 1) 0 ≡ get_or text (end - 1) 0
      last_byte =
          let z : at + (end - at - 1) ≡ end - 1 = omega arith in
          get_or-take (end - at) (drop at text) (end - at - 1) 0 (omega arith) ∙ get_or-drop at text (end - at - 1) 0 ∙ ap (λ (i : ℕ). get_or text i 0) z

      pub returned-line : get_or text (end - 1) 0 ≡ 13 → says (take (end - 1 - at) (drop at text)) ≡ line_at text at end
      unfolding unreturned
      returned-line e =
          let z : end - at - 1 ≡ end - 1 - at = omega arith in
          rw (lt-ltb end (length text) k, long, last_byte, eq-eqb (get_or text (end - 1) 0) 13 e)
          (ap says (ap (λ (i : ℕ). take i (drop at text)) (sym z) ∙ sym (take-take (end - at - 1) (end - at) (drop at text) (omega arith))))

      pub kept_line : (get_or text (end - 1) 0 ≡ 13 → ⊥) → says (take (end - at) (drop at text)) ≡ line_at text at end
      unfolding unreturned
      kept_line e = rw (lt-ltb end (length text) k, long, last_byte, ne_eqb (get_or text (end - 1) 0) 13 e) refl

-- a line is taken, and then the others
onto-more : (l : List ℕ) (b : ℕ) (ps : List (List ℕ)) → line_of l (onto b ps) ≡ unreturned l
onto-more l b [] = refl
onto-more l b (p ∷ ps) = refl

pub lines-behind : (stop : ℕ → Bool) (l x : List ℕ) → line_of l (pieces stop x) ≡ unreturned l
lines-behind stop l [] = refl
lines-behind stop l (b ∷ t) = ⊎_elim (λ e. rw e refl) (λ e. rw e (onto-more l b (pieces stop t))) (cases (stop b))

then_on-alike : (g : Grown) (f k : List ℕ → Reading) (s : Wanted → Reading) → ((m : List ℕ) → f m ≡ k m) → then_on g f s ≡ then_on g k s
then_on-alike (Ok out) f k s h = h out
then_on-alike (Err what) f k s h = refl

-- an empty line at the end
pub no_more : (L : ℕ) (out : List ℕ) → reading L out [] ≡ reading L out ([] ∷ [])
unfolding says closed
no_more L out = refl

module _ (L : ℕ) (out text : List ℕ) (at end : ℕ) (h : at ≤ length text) (e : end ≡ at + upto (stops 10) (drop at text)) where
  faulty : Wanted → Reading
  faulty what = record { answer = Err (fault L what); bytes = out }

  pub reading-more : reading L out (pieces (stops 10) (drop at text))
      ≡ then_on (with_line out (line_at text at end)) (λ more. reading (suc L) more (pieces (stops 10) (drop (end + 1) text)))
      (λ what. record { answer = Err (fault L what); bytes = out })
  unfolding faulty
  reading-more =
      let d : List ℕ = drop at text in
      let u : ℕ = upto (stops 10) d in
      let w : u ≡ end - at = omega arith in
      ⊎_elim
      (λ z. let last : length text ≤ end = omega (arith, length-drop at text) in
      let past : drop (end + 1) text ≡ [] = drop_past text (end + 1) (omega arith) in
      rw (pieces_whole (stops 10) d z, le-ltb end (length text) last, ← w, z, take-length d, past)
      (then_on-alike (with_line out (says d)) (λ more. reading (suc L) more []) (λ more. reading (suc L) more ([] ∷ [])) faulty (no_more (suc L))))
      (λ z. let inside : end < length text = omega (arith, length-drop at text) in
      rw (pieces-cut (stops 10) d z, lines-behind (stops 10) (take u d) (drop (suc u) d), lt-ltb end (length text) inside, ← w, behind (stops 10) text at end e) refl)
      (eq-or-lt_of_le (upto_le (stops 10) d))
