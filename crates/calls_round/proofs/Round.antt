-- What is listed makes the same calls, byte for byte.
use Prim.Native.Nat.{ℕ, zero, suc, ◌+◌, ◌*◌, ◌/◌, ◌%◌, ◌≤◌, ◌<◌}
use mathlib.Core.Bool.{true, false, ◌||◌, not}
use mathlib.Core.List.{List, [], ◌∷◌, ◌++◌, append_assoc, append-nil}
use mathlib.Core.Logic.{⊎_elim}
use mathlib.Core.Path.{◌≡◌, refl, sym, ap, ◌∙◌}
use native.Mathlib.Omega.{arith}
use lib.Dec.{eqb, ltb}
use lib.ListN.{length, take, get_or}
use lib.Seq.{take-suc, take_all, length-take-le}
use borrow.Author.Tests.{lt-ltb, eq-eqb, ne_eqb, ltb-true, ltb-false, eqb-true, not-false}
use Rattle.ground.proofs.Logic.{cases, and_l, and_r, or-none}
use Rattle.ground.proofs.Numbers.{same?}
use Rattle.ground.specs.Pieces.{cat}
use Rattle.call_lines.specs.CallLine.{worded, kind_name, side_name, call_words, spaced, said_call}
use Rattle.call_words.specs.Grammar.{hear, hear_all, closed}
use Rattle.call_words.specs.Word.{lower, meant}
use Rattle.call_words.specs.declared.Heard.TheVariants.{Nothing}
use Rattle.call_words.specs.declared.Line.TheVariants.{Call}
use Rattle.calls_listed.specs.Listed.{said_at, list_lines}
use Rattle.calls_listed.proofs.Ways.{whole-list}
use Rattle.calls_round.proofs.Lines.{words-clean, read-line}
use Rattle.calls_round.proofs.Plain.{clean, all-clean, decimal-clean, decimal-filled, decimal-meant}
use Rattle.calls_round.specs.Theorems.{ListThenRead}
use Rattle.calls_text.specs.Pieces.{stops, pieces}
use Rattle.calls_text.specs.Reading.{Reading, reading, read_text}
use Rattle.calls_text.proofs.Cuts.{no_more}
use Rattle.call_words.specs.declared.Word.{Word}
use Rattle.std.specs.Prelude.{Ok}
use Rattle.le.specs.Le.{Bytes as AreBytes}
use Rattle.lines.specs.Lines.{newline}
use Rattle.run.specs.Run.{list_misshapen}
use Rattle.text.specs.Text.{decimal}

-- clean words in front of clean words
clean-more : (w : List ℕ) (ws : List (List ℕ)) → all-clean w ≡ true → 0 < length w → words-clean ws ≡ true → words-clean (w ∷ ws) ≡ true
unfolding words-clean
clean-more w ws e l f = rw (e, lt-ltb 0 (length w) l) f

-- what the names say
side-clean : (side : ℕ) → (all-clean (side_name side) ≡ true) × (0 < length (side_name side))
unfolding side_name all-clean clean
side-clean side = ⊎_elim (λ e. rw e (refl, omega arith)) (λ e. rw e (refl, omega arith)) (cases (eqb side 0))

side-meant : (side : ℕ) → side < 2 → meant (side_name side) ≡ Word.Side side
unfolding side_name meant lower
side-meant side h =
    ⊎_elim (λ e. rw (eq-eqb side 0 e, e) refl) (λ n. let e : side ≡ 1 = omega arith in rw (ne_eqb side 0 n, e) refl) (same? side 0)

kind-clean : (kind : ℕ) → (all-clean (kind_name kind) ≡ true) × (0 < length (kind_name kind))
unfolding kind_name all-clean clean
kind-clean kind =
    ⊎_elim (λ e. rw (eq-eqb kind 0 e) (refl, omega arith))
    (λ n. ⊎_elim (λ e. rw (ne_eqb kind 0 n, eq-eqb kind 1 e) (refl, omega arith))
    (λ m. rw (ne_eqb kind 0 n, ne_eqb kind 1 m) (refl, omega arith)) (same? kind 1)) (same? kind 0)

kind-meant : (kind : ℕ) → kind < 3 → meant (kind_name kind) ≡ Word.Kind kind
unfolding kind_name meant lower
kind-meant kind h =
    ⊎_elim (λ e. rw (eq-eqb kind 0 e, e) refl)
    (λ n. ⊎_elim (λ e. rw (ne_eqb kind 0 n, eq-eqb kind 1 e, e) refl)
    (λ m. let e : kind ≡ 2 = omega arith in rw (ne_eqb kind 0 n, ne_eqb kind 1 m, e) refl) (same? kind 1)) (same? kind 0)

-- what three or four words say
heard-proposal : (p w s : List ℕ) (v side : ℕ) → meant p ≡ Word.Kind 0 → meant w ≡ Word.Number v → meant s ≡ Word.Side side
    → hear_all Nothing (p ∷ w ∷ s ∷ []) ≡ Call 0 v v side
unfolding hear closed
heard-proposal p w s v side a b c = rw (a, b, c) refl

heard-words : (p w x s : List ℕ) (kind u v side : ℕ) → meant p ≡ Word.Kind kind → (kind ≡ 0 → ⊥) → meant w ≡ Word.Number u → meant x ≡ Word.Number v
    → meant s ≡ Word.Side side → hear_all Nothing (p ∷ w ∷ x ∷ s ∷ []) ≡ Call kind u v side
unfolding hear closed
heard-words p w x s kind u v side a n b c d = rw (a, b, c, d, ne_eqb kind 0 n) refl

heard-numbers : (p w x s : List ℕ) (a b c d : ℕ) → meant p ≡ Word.Number a → meant w ≡ Word.Number b → meant x ≡ Word.Number c → meant s ≡ Word.Number d
    → hear_all Nothing (p ∷ w ∷ x ∷ s ∷ []) ≡ Call a b c d
unfolding hear closed
heard-numbers p w x s a b c d e f g h = rw (e, f, g, h) refl

-- the line of a call, in front of other lines
module _ (L : ℕ) (out : List ℕ) (kind from to side : ℕ) (rest : List ℕ) (room : length out < 16384)
    (a : kind < 256) (b : from < 256) (c : to < 256) (d : side < 256) where
  abbrev Read : Type 0
  Read = reading L out (pieces (stops 10) (spaced (call_words kind from to side) ++ (10 ∷ rest)))
      ≡ reading (suc L) (out ++ (kind ∷ from ∷ to ∷ side ∷ [])) (pieces (stops 10) rest)

  proposal-words : worded kind from to side ≡ true → kind ≡ 0 → call_words kind from to side ≡ kind_name kind ∷ decimal from ∷ side_name side ∷ []
  unfolding call_words kind_name
  proposal-words w z = rw (w, eq-eqb kind 0 z) refl

  other-words : worded kind from to side ≡ true → (kind ≡ 0 → ⊥) → call_words kind from to side ≡ kind_name kind ∷ decimal from ∷ decimal to ∷ side_name side ∷ []
  unfolding call_words kind_name
  other-words w n = rw (w, ne_eqb kind 0 n) refl

  number-words : worded kind from to side ≡ false → call_words kind from to side ≡ decimal kind ∷ decimal from ∷ decimal to ∷ decimal side ∷ []
  unfolding call_words
  number-words w = rw w refl

  number_more : (x : ℕ) (ws : List (List ℕ)) → x < 256 → words-clean ws ≡ true → words-clean (decimal x ∷ ws) ≡ true
  number_more x ws h e = clean-more (decimal x) ws (decimal-clean x h) (decimal-filled x h) e

  last-side : words-clean (side_name side ∷ []) ≡ true
  unfolding words-clean
  last-side = clean-more (side_name side) [] (side-clean side).0 (side-clean side).1 refl

  in-numbers : worded kind from to side ≡ false → Read
  unfolding words-clean
  in-numbers w =
      rw (number-words w)
      (read-line L out (decimal kind) (decimal from ∷ decimal to ∷ decimal side ∷ []) kind from to side rest room
      (number_more kind (decimal from ∷ decimal to ∷ decimal side ∷ []) a
      (number_more from (decimal to ∷ decimal side ∷ []) b (number_more to (decimal side ∷ []) c (number_more side [] d refl))))
      (heard-numbers (decimal kind) (decimal from) (decimal to) (decimal side) kind from to side
      (decimal-meant kind a) (decimal-meant from b) (decimal-meant to c) (decimal-meant side d)))

  said-in-words : worded kind from to side ≡ true → (side < 2) × (kind < 3) × (kind ≡ 0 → from ≡ to)
  unfolding worded
  said-in-words w =
      let r = and_r (ltb side 2) _ w in
      let o = and_r (ltb kind 3) (not (eqb kind 0) || eqb from to) r in (
        ltb-true side 2 (and_l (ltb side 2) _ w),
        ltb-true kind 3 (and_l (ltb kind 3) (not (eqb kind 0) || eqb from to) r),
        λ z. eqb-true from to (rw (eq-eqb kind 0 z) at o),
      )

  one-site : kind ≡ 0 → from ≡ to → Call 0 from from side ≡ Call kind from to side
  one-site z e = cc

  in_words : worded kind from to side ≡ true → Read
  in_words w =
      let p = said-in-words w in
      let k = kind-clean kind in
      ⊎_elim
      (λ z. rw (proposal-words w z)
      (read-line L out (kind_name kind) (decimal from ∷ side_name side ∷ []) kind from to side rest room
      (clean-more (kind_name kind) (decimal from ∷ side_name side ∷ []) k.0 k.1 (number_more from (side_name side ∷ []) b last-side))
      (heard-proposal (kind_name kind) (decimal from) (side_name side) from side (kind-meant kind p.1 ∙ ap (λ (x : ℕ). Word.Kind x) z) (decimal-meant from b)
      (side-meant side p.0) ∙ one-site z (p.2 z))))
      (λ n. rw (other-words w n)
      (read-line L out (kind_name kind) (decimal from ∷ decimal to ∷ side_name side ∷ []) kind from to side rest room
      (clean-more (kind_name kind) (decimal from ∷ decimal to ∷ side_name side ∷ []) k.0 k.1
      (number_more from (decimal to ∷ side_name side ∷ []) b (number_more to (side_name side ∷ []) c last-side)))
      (heard-words (kind_name kind) (decimal from) (decimal to) (side_name side) kind from to side (kind-meant kind p.1) n (decimal-meant from b)
      (decimal-meant to c) (side-meant side p.0))))
      (same? kind 0)

  pub call-read : Read
  call-read = ⊎_elim in_words in-numbers (cases (worded kind from to side))

-- the line of call i, and all lines
module _ (list : List ℕ) (bytes : AreBytes list) where
  abbrev at : ℕ → ℕ → ℕ
  at i k = get_or list (4 * i + k) 0

  four : (i : ℕ) → 4 * i + 4 ≤ length list
      → take (4 * i) list ++ (get_or list (4 * i) 0 ∷ at i 1 ∷ at i 2 ∷ at i 3 ∷ []) ≡ take (4 * suc i) list
  four i h =
      let j : ℕ = 4 * i in
      let e0 : 4 * suc i ≡ suc (j + 3) = omega arith in
      let e1 : j + 3 ≡ suc (j + 2) = omega arith in
      let e2 : j + 2 ≡ suc (j + 1) = omega arith in
      let e3 : j + 1 ≡ suc j = omega arith in
      sym
      (ap (λ (x : ℕ). take x list) e0 ∙ take-suc list (j + 3) 0 (omega arith)
      ∙ ap (λ (x : List ℕ). x ++ (at i 3 ∷ [])) (ap (λ (x : ℕ). take x list) e1 ∙ take-suc list (j + 2) 0 (omega arith)
      ∙ ap (λ (x : List ℕ). x ++ (at i 2 ∷ [])) (ap (λ (x : ℕ). take x list) e2 ∙ take-suc list (j + 1) 0 (omega arith)
      ∙ ap (λ (x : List ℕ). x ++ (at i 1 ∷ [])) (ap (λ (x : ℕ). take x list) e3 ∙ take-suc list j 0 (omega arith))))
      ∙ grouped (take j list) (get_or list j 0) (at i 1) (at i 2) (at i 3))
    where
      grouped : (l : List ℕ) (a b c d : ℕ) → (((l ++ (a ∷ [])) ++ (b ∷ [])) ++ (c ∷ [])) ++ (d ∷ []) ≡ l ++ (a ∷ b ∷ c ∷ d ∷ [])
      grouped l a b c d = simp append_assoc

  said-line : (i : ℕ) (rest : List ℕ) → said_at list i ++ rest ≡ spaced (call_words (get_or list (4 * i) 0) (at i 1) (at i 2) (at i 3)) ++ (10 ∷ rest)
  unfolding said_call
  said-line i rest = append_assoc (spaced (call_words (get_or list (4 * i) 0) (at i 1) (at i 2) (at i 3))) newline rest

  lines-read : (k : ℕ) (rest : List ℕ) → 4 * k ≤ length list → length list ≤ 16384
      → reading 1 [] (pieces (stops 10) (cat (said_at list) k ++ rest)) ≡ reading (suc k) (take (4 * k) list) (pieces (stops 10) rest)
  unfolding cat
  lines-read zero rest h m = refl
  lines-read (suc k) rest h m =
      let l : length (take (4 * k) list) ≡ 4 * k = length-take-le (4 * k) list (omega arith) in
      ap (λ (x : List ℕ). reading 1 [] (pieces (stops 10) x)) (append_assoc (cat (said_at list) k) (said_at list k) rest)
      ∙ lines-read k (said_at list k ++ rest) (omega arith) m
      ∙ ap (λ (x : List ℕ). reading (suc k) (take (4 * k) list) (pieces (stops 10) x)) (said-line k rest)
      ∙ call-read (suc k) (take (4 * k) list) (get_or list (4 * k) 0) (at k 1) (at k 2) (at k 3) rest (rw l (omega arith))
      (bytes (4 * k)) (bytes (4 * k + 1)) (bytes (4 * k + 2)) (bytes (4 * k + 3))
      ∙ ap (λ (x : List ℕ). reading (suc (suc k)) x (pieces (stops 10) rest)) (four k (omega arith))

  all_read : length list % 4 ≡ 0 → length list ≤ 16384 → reading 1 [] (pieces (stops 10) (list_lines list)) ≡ record { answer = Ok (length list); bytes = list }
  unfolding list_lines
  all_read e m =
      let n : ℕ = length list / 4 in
      let z : 4 * n ≡ length list = omega arith in
      let t : take (4 * n) list ≡ list = take_all (4 * n) list (omega arith) in
      ap (λ (x : List ℕ). reading 1 [] (pieces (stops 10) x)) (sym (append-nil (cat (said_at list) n)))
      ∙ lines-read n [] (omega arith) m ∙ sym (no_more (suc n) (take (4 * n) list)) ∙ rw t refl

pub list-then-read : ListThenRead
unfolding read_text list_misshapen
list-then-read list bytes right =
    let p = or-none (not (eqb (length list % 4) 0)) (ltb 16384 (length list)) right in
    let e = eqb-true (length list % 4) 0 (not-false (eqb (length list % 4) 0) p.0) in
    let l = ltb-false 16384 (length list) p.1 in
    let all = ap (λ (x : List ℕ). reading 1 [] (pieces (stops 10) x)) (sym (whole-list list e l)) ∙ all_read list bytes e l in
    (ap (λ (x : Reading). x.answer) all, ap (λ (x : Reading). x.bytes) all)
