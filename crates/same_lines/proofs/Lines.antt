-- Laws of the lines that are printed of two lists: one for each way out, and how long they are.
use Prim.Native.Nat.{ℕ, ◌+◌, ◌*◌, ◌/◌, ◌≤◌}
use mathlib.Core.Bool.{Bool, true, false, ◌&&◌, ◌||◌, cond}
use mathlib.Core.List.{List, [], ◌++◌}
use mathlib.Core.Logic.{⊎_elim}
use mathlib.Core.Path.{◌≡◌, refl, sym}
use native.Mathlib.Omega.{arith}
use lib.ListN.{length, get_or, length-append}
use Rattle.call_lines.proofs.Said.{length-call}
use Rattle.calls_listed.specs.Listed.{said_at}
use Rattle.ground.proofs.Logic.{cases}
use Rattle.ground.specs.Pieces.{cat}
use Rattle.lines.proofs.Lengths.{decimal-line}
use Rattle.lines.specs.Lines.{line}
use Rattle.register.proofs.Rows.{length-rows}
use Rattle.same_calls.specs.Same.{has_that, proposed}
use Rattle.same_lines.specs.SameLines.{lack_line, lack_lines, both_line}
use Rattle.text.proofs.Written.{written-nothing}
use Rattle.text.specs.Text.{ascii, decimal}
use Rattle.text.specs.Written.{Writes}

-- nothing is written
pub nothing_put : (room : List ℕ) (at : ℕ) → at ≤ length room → Writes [] room at at room
nothing_put room at h = record { place = omega arith; memory = sym (written-nothing room at); inside = h }

chosen : (t : Bool) (l : List ℕ) → length l ≤ 91 → length (cond t [] l) ≤ 91
chosen true l h = omega arith
chosen false l h = h

module _ (word a b : List ℕ) (i : ℕ) where
  pub not-lacked : has_that (length b / 4) b a i ≡ true → [] ≡ lack_line word a b i
  unfolding lack_line
  not-lacked e = rw e refl

  module _ (n : has_that (length b / 4) b a i ≡ false) where
    pub shown-before : has_that i a a i ≡ true → [] ≡ lack_line word a b i
    unfolding lack_line
    shown-before e = rw (n, e) refl

    pub shown-now : has_that i a a i ≡ false → word ++ said_at a i ≡ lack_line word a b i
    unfolding lack_line
    shown-now e = rw (n, e) refl

  pub length-lack : length word ≤ 7 → length (lack_line word a b i) ≤ 91
  unfolding lack_line
  length-lack h =
      chosen (has_that (length b / 4) b a i || has_that i a a i) (word ++ said_at a i)
      (omega (
        arith,
        length-append word (said_at a i),
        length-call (get_or a (4 * i) 0) (get_or a (4 * i + 1) 0) (get_or a (4 * i + 2) 0) (get_or a (4 * i + 3) 0),
      ))

pub length-lacks : (word a b : List ℕ) (k : ℕ) → length word ≤ 7 → length (cat (lack_line word a b) k) ≤ 91 * k
length-lacks word a b k h = length-rows (lack_line word a b) 91 k (λ i. length-lack word a b i h)

module _ (a b : List ℕ) (v : ℕ) where
  pub no-drill : proposed a b v 0 ≡ false → [] ≡ both_line a b v
  unfolding both_line
  no-drill e = rw e refl

  pub no-live : proposed a b v 0 ≡ true → proposed a b v 1 ≡ false → [] ≡ both_line a b v
  unfolding both_line
  no-live d e = rw (d, e) refl

  pub both-sides : proposed a b v 0 ≡ true → proposed a b v 1 ≡ true → line (ascii "both ") (decimal v) ≡ both_line a b v
  unfolding both_line
  both-sides d e = rw (d, e) refl

  length_both : length (both_line a b v) ≤ 26
  unfolding both_line
  length_both =
      ⊎_elim (λ e. rw e (decimal-line (ascii "both ") v)) (λ e. rw e (omega arith)) (cases (proposed a b v 0 && proposed a b v 1))

pub length-boths : (a b : List ℕ) (k : ℕ) → length (cat (both_line a b) k) ≤ 26 * k
length-boths a b k = length-rows (both_line a b) 26 k (length_both a b)

pub length-lack-lines : (word a b : List ℕ) → length word ≤ 7 → length (lack_lines word a b) ≤ 91 * (length a / 4)
unfolding lack_lines
length-lack-lines word a b h = length-lacks word a b (length a / 4) h
