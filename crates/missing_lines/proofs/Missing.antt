-- Laws of the missing calls: one for each way out, and how long their lines are.
use Prim.Native.Nat.{ℕ, ◌*◌, ◌≤◌}
use mathlib.Core.Bool.{Bool, true, false, cond}
use mathlib.Core.List.{List, [], ◌++◌, append_assoc}
use mathlib.Core.Logic.{⊎_elim}
use mathlib.Core.Path.{◌≡◌, refl}
use native.Mathlib.Omega.{arith}
use lib.Dec.{eqb}
use lib.ListN.{length, length-append}
use borrow.Author.Tests.{eq-eqb, ne_eqb}
use Rattle.call_lines.specs.CallLine.{side_name}
use Rattle.ground.proofs.Logic.{cases}
use Rattle.ground.specs.Pieces.{cat}
use Rattle.lines.proofs.Lengths.{length-line}
use Rattle.lines.specs.Lines.{line}
use Rattle.liveness.specs.Complete.{lacks, is_complete}
use Rattle.missing_lines.specs.Missing.{missing_line, missing_from, missing_lines, side_lines, unmet}
use Rattle.register.proofs.Rows.{length-rows}
use Rattle.text.proofs.Width.{length-decimal}
use Rattle.text.specs.Text.{ascii, decimal}

-- the name of a side
module _ (side : ℕ) where
  pub name-drill : side ≡ 0 → ascii "drill " ≡ side_name side ++ ascii " "
  unfolding side_name
  name-drill e = rw (eq-eqb side 0 e) refl

  pub name_live : (side ≡ 0 → ⊥) → ascii "live " ≡ side_name side ++ ascii " "
  unfolding side_name
  name_live e = rw (ne_eqb side 0 e) refl

  pub complete-drill : side ≡ 0 → ascii "complete drill\n" ≡ line (ascii "complete ") (side_name side)
  unfolding side_name line
  complete-drill e = rw (eq-eqb side 0 e) refl

  pub complete-live : (side ≡ 0 → ⊥) → ascii "complete live\n" ≡ line (ascii "complete ") (side_name side)
  unfolding side_name line
  complete-live e = rw (ne_eqb side 0 e) refl

  pub length-name : length (side_name side ++ ascii " ") ≤ 6
  unfolding side_name
  length-name = ⊎_elim (λ e. rw e (omega arith)) (λ e. rw e (omega arith)) (cases (eqb side 0))

-- a line of three words, put one behind the other
pub three-words : (A B C : List ℕ) → A ++ (B ++ line (ascii " ") C) ≡ line A (B ++ (ascii " " ++ C))
unfolding line
three-words A B C = simp append_assoc

-- the line of a call, if it is missing
module _ (among side : ℕ) (list : List ℕ) (accepters : ℕ) where
  module _ (u v : ℕ) where
    pub said : lacks among side list accepters u v ≡ true →
        line (side_name side ++ ascii " ") (decimal u ++ (ascii " " ++ decimal v)) ≡ missing_line among side list accepters u v
    unfolding missing_line
    said e = rw e refl

    pub unsaid : lacks among side list accepters u v ≡ false → [] ≡ missing_line among side list accepters u v
    unfolding missing_line
    unsaid e = rw e refl

    length-missing : length (missing_line among side list accepters u v) ≤ 48
    unfolding missing_line
    length-missing = at_most (lacks among side list accepters u v) (side_name side ++ ascii " ") (decimal u) (decimal v) (length-name side) (length-decimal u) (length-decimal v)
      where
        at_most : (b : Bool) (A B C : List ℕ) → length A ≤ 6 → length B ≤ 20 → length C ≤ 20 → length (cond b (line A (B ++ (ascii " " ++ C))) []) ≤ 48
        at_most true A B C a b c = omega (arith, length-line A (B ++ (ascii " " ++ C)), length-append B (ascii " " ++ C))
        at_most false A B C a b c = omega arith

  -- the lines of a sender to the first receivers, and of the first senders
  pub length_to : (u k : ℕ) → length (cat (missing_line among side list accepters u) k) ≤ 48 * k
  length_to u k = length-rows (missing_line among side list accepters u) 48 k (length-missing u)

  length_from : (n u : ℕ) → length (missing_from n among side list accepters u) ≤ 48 * n
  unfolding missing_from
  length_from n u = length_to u n

  pub length-senders : (n k : ℕ) → n ≤ 12 → length (cat (missing_from n among side list accepters) k) ≤ 576 * k
  length-senders n k h = length-rows (missing_from n among side list accepters) 576 k (λ u. few u)
    where
      few : (u : ℕ) → length (missing_from n among side list accepters u) ≤ 576
      few u = omega (arith, length_from n u, h)

-- the lines of a side
pub length-side : (n among side : ℕ) (list : List ℕ) (accepters : ℕ) → n ≤ 12 → length (side_lines n among side list accepters) ≤ 6912
unfolding side_lines missing_lines
length-side n among side list accepters h =
    either (is_complete n among side list accepters) (line (ascii "complete ") (side_name side)) (cat (missing_from n among side list accepters) n)
    (omega (arith, length-line (ascii "complete ") (side_name side), length-name side, length-append (side_name side) (ascii " ")))
    (omega (arith, length-senders among side list accepters n n h, h))
  where
    either : (b : Bool) (A B : List ℕ) → length A ≤ 6912 → length B ≤ 6912 → length (cond b A B) ≤ 6912
    either true A B a b = a
    either false A B a b = b

-- the line that the table does not meet
pub length-unmet : (meet : Bool) → length (unmet meet) ≤ 8
length-unmet true = omega arith
length-unmet false = omega (arith, length-line (ascii "meet ") (ascii "no"))
