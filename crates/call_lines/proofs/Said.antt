-- Laws of a call's line: one for each way out, and how long it is.
use Prim.Native.Nat.{ℕ, ◌≤◌}
use mathlib.Core.Bool.{true, false}
use mathlib.Core.List.{List, ◌++◌, append_assoc}
use mathlib.Core.Logic.{⊎_elim}
use mathlib.Core.Path.{◌≡◌, refl}
use native.Mathlib.Omega.{arith}
use lib.Dec.{eqb}
use lib.ListN.{length, length-append}
use borrow.Author.Tests.{eq-eqb, ne_eqb}
use Rattle.call_lines.specs.CallLine.{worded, kind_name, side_name, call_words, said_call}
use Rattle.ground.proofs.Logic.{cases}
use Rattle.ground.proofs.Numbers.{same?}
use Rattle.lines.specs.Lines.{newline, line}
use Rattle.text.proofs.Width.{length-decimal}
use Rattle.text.specs.Text.{ascii, decimal}

-- a side, and the end of the line
pub side-drill : (side : ℕ) → side ≡ 0 → ascii " drill\n" ≡ ascii " " ++ (side_name side ++ newline)
unfolding side_name
side-drill side e = rw (eq-eqb side 0 e) refl

pub side-live : (side : ℕ) → (side ≡ 0 → ⊥) → ascii " live\n" ≡ ascii " " ++ (side_name side ++ newline)
unfolding side_name
side-live side e = rw (ne_eqb side 0 e) refl

-- the line, by what is put one behind the other
module _ (kind from to side : ℕ) where
  pub said-numbers : worded kind from to side ≡ false
      → (decimal kind ++ (ascii " " ++ (decimal from ++ (ascii " " ++ decimal to)))) ++ line (ascii " ") (decimal side) ≡ said_call kind from to side
  unfolding said_call call_words line
  said-numbers e = rw e (simp append_assoc)

  module _ (w : worded kind from to side ≡ true) where
    pub said-proposal : kind ≡ 0 → ascii "propose " ++ (decimal from ++ (ascii " " ++ (side_name side ++ newline))) ≡ said_call kind from to side
    unfolding said_call call_words kind_name
    said-proposal e = rw (w, eq-eqb kind 0 e) (simp append_assoc)

    module _ (n : kind ≡ 0 → ⊥) where
      pub said-vote : kind ≡ 1 → ascii "vote " ++ ((decimal from ++ (ascii " " ++ decimal to)) ++ (ascii " " ++ (side_name side ++ newline))) ≡ said_call kind from to side
      unfolding said_call call_words kind_name
      said-vote e = rw (w, ne_eqb kind 0 n, eq-eqb kind 1 e) (simp append_assoc)

      pub said-accept : (kind ≡ 1 → ⊥) → ascii "accept " ++ ((decimal from ++ (ascii " " ++ decimal to)) ++ (ascii " " ++ (side_name side ++ newline))) ≡ said_call kind from to side
      unfolding said_call call_words kind_name
      said-accept e = rw (w, ne_eqb kind 0 n, ne_eqb kind 1 e) (simp append_assoc)

-- how long two numbers are at most
pub length-pair : (from to : ℕ) → length (decimal from ++ (ascii " " ++ decimal to)) ≤ 41
length-pair from to = rw (length-append (decimal from) (ascii " " ++ decimal to)) (omega (arith, length-decimal from, length-decimal to))

-- how long the line is at most
long-numbers : (A B C D : List ℕ) → length A ≤ 20 → length B ≤ 20 → length C ≤ 20 → length D ≤ 20
    → length ((A ++ (ascii " " ++ (B ++ (ascii " " ++ C)))) ++ line (ascii " ") D) ≤ 84
unfolding line
long-numbers A B C D a b c d = simp length-append (omega arith)

long-side : (side : ℕ) → length (side_name side) ≤ 5
unfolding side_name
long-side side = ⊎_elim (λ e. rw e (omega arith)) (λ e. rw e (omega arith)) (cases (eqb side 0))

long-words : (A B C D : List ℕ) → length A ≤ 8 → length B ≤ 20 → length C ≤ 20 → length D ≤ 5
    → length (A ++ ((B ++ (ascii " " ++ C)) ++ (ascii " " ++ (D ++ newline)))) ≤ 84
long-words A B C D a b c d = simp length-append (omega arith)

long-proposal : (A B D : List ℕ) → length A ≤ 8 → length B ≤ 20 → length D ≤ 5 → length (A ++ (B ++ (ascii " " ++ (D ++ newline)))) ≤ 84
long-proposal A B D a b d = simp length-append (omega arith)

pub length-call : (kind from to side : ℕ) → length (said_call kind from to side) ≤ 84
length-call kind from to side =
    ⊎_elim
    (λ w. ⊎_elim
    (λ e. rw (← said-proposal kind from to side w e)
    (long-proposal (ascii "propose ") (decimal from) (side_name side) (omega arith) (length-decimal from) (long-side side)))
    (λ n. ⊎_elim
    (λ e. rw (← said-vote kind from to side w n e)
    (long-words (ascii "vote ") (decimal from) (decimal to) (side_name side) (omega arith) (length-decimal from) (length-decimal to) (long-side side)))
    (λ m. rw (← said-accept kind from to side w n m)
    (long-words (ascii "accept ") (decimal from) (decimal to) (side_name side) (omega arith) (length-decimal from) (length-decimal to) (long-side side)))
    (same? kind 1))
    (same? kind 0))
    (λ w. rw (← said-numbers kind from to side w)
    (long-numbers (decimal kind) (decimal from) (decimal to) (decimal side) (length-decimal kind) (length-decimal from) (length-decimal to) (length-decimal side)))
    (cases (worded kind from to side))
