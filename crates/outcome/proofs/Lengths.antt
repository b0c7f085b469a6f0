-- How long the line of a call is at most, and that above 12 sites the lines of a run do not depend on who is intact.
use Prim.Native.Nat.{ℕ, ◌≤◌, ◌<◌}
use mathlib.Core.List.{List, ◌++◌}
use mathlib.Core.Path.{◌≡◌, ap}
use native.Mathlib.Omega.{arith}
use lib.ListN.{length, length-append}
use Rattle.call_lines.proofs.Said as Said
use Rattle.call_lines.specs.CallLine.{said_call}
use Rattle.lines.specs.Lines.{line}
use Rattle.outcome.specs.Outcome.{call_line, call_lines, end_lines}
use Rattle.state_lines.proofs.State.{state-above-twelve}
use Rattle.text.proofs.Width.{length-decimal}
use Rattle.text.specs.Text.{ascii, decimal, mask}

long-call : (A B C : List ℕ) → length A ≤ 20 → length B ≤ 20 → length C ≤ 84 → length (ascii "call " ++ (A ++ (ascii " " ++ (B ++ (ascii " " ++ C))))) ≤ 131
long-call A B C a b c = simp length-append (omega arith)

pub length-call : (i a kind from to side : ℕ) → length (call_line i a kind from to side) ≤ 131
unfolding call_line
length-call i a kind from to side =
    long-call (decimal i) (decimal a) (said_call kind from to side) (length-decimal i) (length-decimal a) (Said.length-call kind from to side)

pub end-above-twelve : (F n whole other passes : ℕ) (s list answers : List ℕ) → 12 < n → end_lines F n whole passes s list answers ≡ end_lines F n other passes s list answers
unfolding end_lines
end-above-twelve F n whole other passes s list answers l =
    ap (λ (x : List ℕ). line (ascii "sites ") (decimal n) ++ (line (ascii "faulty ") (mask F) ++ (line (ascii "passes ") (decimal passes) ++ (x ++ call_lines list answers))))
    (state-above-twelve n F whole other s l)
