-- How long the lines are at most.
use Prim.Native.Nat.{ℕ, ◌+◌, ◌≤◌}
use mathlib.Core.Bool.{Bool, true, false, cond}
use mathlib.Core.List.{List, ◌++◌}
use mathlib.Core.Path.{◌≡◌, ◌∙◌}
use native.Mathlib.Omega.{arith}
use lib.ListN.{length, length-append}
use Rattle.lines.specs.Lines.{newline, line, sides}
use Rattle.text.proofs.Width.{length-decimal, length-mask}
use Rattle.text.specs.Text.{ascii, decimal, mask}

pub length-line : (word said : List ℕ) → length (line word said) ≡ length word + length said + 1
unfolding line
length-line word said = length-append word (said ++ newline) ∙ omega (arith, length-append said newline)

pub decimal-line : (word : List ℕ) (x : ℕ) → length (line word (decimal x)) ≤ length word + 21
decimal-line word x = omega (arith, length-line word (decimal x), length-decimal x)

pub mask-line : (word : List ℕ) (m : ℕ) → length (line word (mask m)) ≡ length word + 17
mask-line word m = omega (arith, length-line word (mask m), length-mask m)

pub answer-line : (word : List ℕ) (yes : Bool) → length (line word (cond yes (ascii "yes") (ascii "no"))) ≤ length word + 4
answer-line word true = omega (arith, length-line word (ascii "yes"))
answer-line word false = omega (arith, length-line word (ascii "no"))

pub length-sides : (word : List ℕ) (drill live : ℕ) → length (sides word drill live) ≡ length word + 34
unfolding sides
length-sides word drill live =
    rw (length-line word (mask drill ++ (ascii " " ++ mask live)))
    (omega (arith, length-append (mask drill) (ascii " " ++ mask live), length-mask drill, length-mask live))
