-- The ways out of what is printed of two lists: one law for each, and how long it is.
use Prim.Native.Nat.{ℕ, ◌%◌, ◌≤◌}
use mathlib.Core.Bool.{Bool, true, false, not, cond}
use mathlib.Core.List.{List, ◌++◌}
use mathlib.Core.Path.{◌≡◌, refl}
use native.Mathlib.Omega.{arith}
use lib.ListN.{length, length-append}
use borrow.Author.Tests.{ltb-false}
use lib.Dec.{eqb, ltb}
use Rattle.ground.proofs.Logic.{or-none}
use Rattle.ground.specs.Pieces.{cat}
use Rattle.run.specs.Run.{list_misshapen}
use Rattle.same_calls.specs.Same.{same_lists}
use Rattle.same_lines.proofs.Lines.{length-lack-lines}
use Rattle.same_lines.specs.SameLines.{lack_lines, both_line}
use Rattle.same_text.specs.SameText.{answer_lines, refused_list, same_text}
use Rattle.text.specs.Text.{ascii}

module _ (a b : List ℕ) where
  pub said_same : same_lists a b ≡ true → ascii "same\n" ≡ answer_lines a b
  unfolding answer_lines
  said_same e = rw e refl

  pub said-apart : same_lists a b ≡ false → lack_lines (ascii "first ") a b ++ lack_lines (ascii "second ") b a ≡ answer_lines a b
  unfolding answer_lines
  said-apart e = rw e refl

  pub first-refused : list_misshapen (length a) ≡ true → refused_list (ascii "first\n") ≡ same_text a b
  unfolding same_text
  first-refused e = rw e refl

  module _ (n : list_misshapen (length a) ≡ false) where
    pub second-refused : list_misshapen (length b) ≡ true → refused_list (ascii "second\n") ≡ same_text a b
    unfolding same_text
    second-refused e = rw (n, e) refl

    pub compared : list_misshapen (length b) ≡ false → answer_lines a b ++ cat (both_line a b) 256 ≡ same_text a b
    unfolding same_text
    compared e = rw (n, e) refl

pub short-list : (n : ℕ) → list_misshapen n ≡ false → n ≤ 16384
unfolding list_misshapen
short-list n e = ltb-false 16384 n (or-none (not (eqb (n % 4) 0)) (ltb 16384 n) e).1

either : (t : Bool) (l m : List ℕ) → length l ≤ 745472 → length m ≤ 745472 → length (cond t l m) ≤ 745472
either true l m h k = h
either false l m h k = k

pub length-answer : (a b : List ℕ) → length a ≤ 16384 → length b ≤ 16384 → length (answer_lines a b) ≤ 745472
unfolding answer_lines
length-answer a b h k =
    either (same_lists a b) (ascii "same\n") (lack_lines (ascii "first ") a b ++ lack_lines (ascii "second ") b a) (omega arith)
    (omega (
      arith,
      length-append (lack_lines (ascii "first ") a b) (lack_lines (ascii "second ") b a),
      length-lack-lines (ascii "first ") a b (omega arith),
      length-lack-lines (ascii "second ") b a (omega arith),
    ))
