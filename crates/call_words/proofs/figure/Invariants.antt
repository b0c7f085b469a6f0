-- `figure` meets its contract: what is left to read makes of the number so far what the whole word makes of 0.
use Prim.Native.Nat.{◌≤◌}
use mathlib.Core.Path.{◌≡◌}
use lib.ListN.{drop}
use Rattle.call_words.specs.Word.{figure}
use Rattle.call_words.proofs.figure.Given as goal

abbrev pub invariant-loop-b : goal.invariant-loop-b
invariant-loop-b l =
    (l.x ≤ 255) × (figure 0 l.word ≡ figure l.x (drop l.b-index l.word))
