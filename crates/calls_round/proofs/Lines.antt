-- The line of a call is read as that call.
use Prim.Native.Nat.{ℕ, zero, suc, ◌-◌, ◌≤◌, ◌<◌}
use mathlib.Core.Bool.{Bool, true, false, ◌&&◌, not}
use mathlib.Core.List.{List, [], ◌∷◌, ◌++◌}
use mathlib.Core.Path.{◌≡◌, refl, ap, ◌∙◌}
use native.Mathlib.Omega.{arith}
use lib.Dec.{eqb, ltb}
use lib.ListN.{length, get_or}
use lib.Seq.{take-length}
use borrow.Author.Tests.{lt-ltb, not-true}
use Rattle.ground.proofs.Logic.{and_l, and_r, and_i, or-none}
use Rattle.call_lines.specs.CallLine.{spaced}
use Rattle.call_words.specs.Grammar.{hear_all}
use Rattle.call_words.specs.declared.Heard.TheVariants.{Nothing}
use Rattle.call_words.specs.declared.Line.TheVariants.{Call}
use Rattle.calls_round.proofs.Plain.{all-clean, clean, no_stop}
use Rattle.calls_text.proofs.Cuts.{lines-behind}
use Rattle.calls_text.specs.Pieces.{stops, upto, onto, pieces, filled, says, unreturned}
use Rattle.calls_text.specs.Reading.{reading}

-- no byte of the list stops
unfoldable none : ℕ → List ℕ → Bool
unfolding stops
none kind [] = true
none kind (b ∷ t) = not (stops kind b) && none kind t

none_first : (kind b : ℕ) (t : List ℕ) → none kind (b ∷ t) ≡ true → (stops kind b ≡ false) × (none kind t ≡ true)
unfolding none
none_first kind b t e = (not-true (stops kind b) (and_l (not (stops kind b)) (none kind t) e), and_r (not (stops kind b)) (none kind t) e)

none_both : (kind : ℕ) (s t : List ℕ) → none kind s ≡ true → none kind t ≡ true → none kind (s ++ t) ≡ true
unfolding none
none_both kind [] t e f = f
none_both kind (b ∷ s) t e f = let p = none_first kind b s e in and_i (and_l (not (stops kind b)) (none kind s) e) (none_both kind s t p.1 f)

none-clean : (kind : ℕ) (w : List ℕ) → kind ≤ 47 → all-clean w ≡ true → none kind w ≡ true
unfolding none all-clean
none-clean kind [] k e = refl
none-clean kind (b ∷ w) k e =
    rw (no_stop kind b k (and_l (clean b) (all-clean w) e)) (none-clean kind w k (and_r (clean b) (all-clean w) e))

none-upto : (kind : ℕ) (l : List ℕ) → none kind l ≡ true → upto (stops kind) l ≡ length l
none-upto kind [] e = refl
none-upto kind (b ∷ t) e = let p = none_first kind b t e in rw p.0 (ap suc (none-upto kind t p.1))

none-at : (kind : ℕ) (l : List ℕ) (i : ℕ) → stops kind 0 ≡ false → none kind l ≡ true → stops kind (get_or l i 0) ≡ false
none-at kind [] i z e = z
none-at kind (b ∷ t) zero z e = (none_first kind b t e).0
none-at kind (b ∷ t) (suc i) z e = none-at kind t i z (none_first kind b t e).1

-- the only piece, and the first of several
piece-whole : (kind : ℕ) (w : List ℕ) → none kind w ≡ true → pieces (stops kind) w ≡ w ∷ []
piece-whole kind [] e = refl
piece-whole kind (b ∷ w) e = let p = none_first kind b w e in rw p.0 (ap (onto b) (piece-whole kind w p.1))

piece_then : (kind : ℕ) (w : List ℕ) (c : ℕ) (t : List ℕ) → none kind w ≡ true → stops kind c ≡ true
    → pieces (stops kind) (w ++ (c ∷ t)) ≡ w ∷ pieces (stops kind) t
piece_then kind [] c t e s = rw s refl
piece_then kind (b ∷ w) c t e s = let p = none_first kind b w e in rw p.0 (ap (onto b) (piece_then kind w c t p.1 s))

-- words: clean, and each has a byte
unfoldable pub words-clean : List (List ℕ) → Bool
unfolding all-clean
words-clean [] = true
words-clean (w ∷ ws) = (all-clean w && ltb 0 (length w)) && words-clean ws

first_word : (w : List ℕ) (ws : List (List ℕ)) → words-clean (w ∷ ws) ≡ true → (all-clean w ≡ true) × (ltb 0 (length w) ≡ true) × (words-clean ws ≡ true)
unfolding words-clean
first_word w ws e =
    let h = and_l (all-clean w && ltb 0 (length w)) (words-clean ws) e in
    (and_l (all-clean w) (ltb 0 (length w)) h, and_r (all-clean w) (ltb 0 (length w)) h, and_r (all-clean w && ltb 0 (length w)) (words-clean ws) e)

blank-stops : stops 32 32 ≡ true
unfolding stops
blank-stops = refl

spaced-pieces : (w : List ℕ) (ws : List (List ℕ)) → words-clean (w ∷ ws) ≡ true → pieces (stops 32) (spaced (w ∷ ws)) ≡ w ∷ ws
spaced-pieces w [] e = piece-whole 32 w (none-clean 32 w (omega arith) (first_word w [] e).0)
spaced-pieces w (v ∷ ws) e =
    let p = first_word w (v ∷ ws) e in
    piece_then 32 w 32 (spaced (v ∷ ws)) (none-clean 32 w (omega arith) p.0) blank-stops ∙ ap (λ (x : List (List ℕ)). w ∷ x) (spaced-pieces v ws p.2)

blank_none : (kind : ℕ) → stops kind 32 ≡ false → (t : List ℕ) → none kind t ≡ true → none kind (32 ∷ t) ≡ true
unfolding none
blank_none kind s t f = rw s f

-- no line feed, no comment and no CR stands in such a line
spaced-none : (kind : ℕ) → kind ≤ 47 → stops kind 32 ≡ false → (w : List ℕ) (ws : List (List ℕ)) → words-clean (w ∷ ws) ≡ true → none kind (spaced (w ∷ ws)) ≡ true
spaced-none kind k s w [] e = none-clean kind w k (first_word w [] e).0
spaced-none kind k s w (v ∷ ws) e =
    let p = first_word w (v ∷ ws) e in
    none_both kind w (32 ∷ spaced (v ∷ ws)) (none-clean kind w k p.0) (blank_none kind s (spaced (v ∷ ws)) (spaced-none kind k s v ws p.2))

filled-clean : (ws : List (List ℕ)) → words-clean ws ≡ true → filled ws ≡ ws
filled-clean [] e = refl
filled-clean ([] ∷ ws) e = let h = (first_word [] ws e).1 in let z : ◌≡◌ {A = ℕ} 0 1 = cc in absurd (omega arith)
filled-clean ((b ∷ w) ∷ ws) e = ap (λ (x : List (List ℕ)). (b ∷ w) ∷ x) (filled-clean ws (first_word (b ∷ w) ws e).2)

pub says-spaced : (w : List ℕ) (ws : List (List ℕ)) → words-clean (w ∷ ws) ≡ true → says (spaced (w ∷ ws)) ≡ hear_all Nothing (w ∷ ws)
unfolding says stops
says-spaced w ws e =
    rw (none-upto 35 (spaced (w ∷ ws)) (spaced-none 35 (omega arith) refl w ws e), take-length (spaced (w ∷ ws)), spaced-pieces w ws e, filled-clean (w ∷ ws) e) refl

unreturned-spaced : (w : List ℕ) (ws : List (List ℕ)) → words-clean (w ∷ ws) ≡ true → unreturned (spaced (w ∷ ws)) ≡ spaced (w ∷ ws)
unfolding unreturned stops
unreturned-spaced w ws e =
    let l : List ℕ = spaced (w ∷ ws) in
    let h = none-at 13 l (length l - 1) refl (spaced-none 13 (omega arith) refl w ws e) in
    rw (or-none (eqb (get_or l (length l - 1) 0) 13) _ h).0 refl

lf-stops : stops 10 10 ≡ true
unfolding stops
lf-stops = refl

lf-none : (w : List ℕ) (ws : List (List ℕ)) → words-clean (w ∷ ws) ≡ true → none 10 (spaced (w ∷ ws)) ≡ true
unfolding stops
lf-none w ws e = spaced-none 10 (omega arith) refl w ws e

-- a line of clean words that say a call
pub read-line : (L : ℕ) (out : List ℕ) (w : List ℕ) (ws : List (List ℕ)) (a b c d : ℕ) (rest : List ℕ) → length out < 16384
    → words-clean (w ∷ ws) ≡ true → hear_all Nothing (w ∷ ws) ≡ Call a b c d
    → reading L out (pieces (stops 10) (spaced (w ∷ ws) ++ (10 ∷ rest))) ≡ reading (suc L) (out ++ (a ∷ b ∷ c ∷ d ∷ [])) (pieces (stops 10) rest)
read-line L out w ws a b c d rest h e s =
    rw (
      piece_then 10 (spaced (w ∷ ws)) 10 rest (lf-none w ws e) lf-stops,
      lines-behind (stops 10) (spaced (w ∷ ws)) rest,
      unreturned-spaced w ws e,
      says-spaced w ws e,
      s,
      lt-ltb (length out) 16384 h,
    ) refl
