-- How long the line of a refusal is at most.
use Prim.Native.Nat.{ℕ, ◌≤◌}
use mathlib.Core.List.{List, ◌++◌}
use native.Mathlib.Omega.{arith}
use lib.ListN.{length, length-append}
use Rattle.lines.specs.Lines.{newline, line}
use Rattle.refusal_lines.specs.Refused.{refused}
use Rattle.refusals.specs.Refusal.{number, place}
use Rattle.refusals.specs.declared.Refusal.{Refusal}
use Rattle.text.proofs.Width.{length-decimal}
use Rattle.text.specs.Text.{ascii, decimal}

pub length-refused : (r : Refusal) → length (refused r) ≤ 50
unfolding refused line
length-refused r = of (decimal (number r)) (decimal (place r)) (length-decimal (number r)) (length-decimal (place r))
  where
    of : (n k : List ℕ) → length n ≤ 20 → length k ≤ 20 → length (ascii "refused " ++ ((n ++ (ascii " " ++ k)) ++ newline)) ≤ 50
    of n k h g = omega (arith, length-append (n ++ (ascii " " ++ k)) newline, length-append n (ascii " " ++ k))
