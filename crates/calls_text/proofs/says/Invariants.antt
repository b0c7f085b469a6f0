-- `says` meets its contract: what is left of the line says behind what was heard so far what the whole line says.
use Prim.Native.Nat.{◌+◌, ◌-◌, ◌≤◌}
use mathlib.Core.Path.{◌≡◌}
use lib.ListN.{drop}
use Rattle.call_words.specs.Grammar.{hear_all}
use Rattle.call_words.specs.declared.Heard.TheVariants.{Nothing}
use Rattle.calls_text.specs.Pieces.{stops, pieces, filled}
use Rattle.calls_text.proofs.says.Given as goal

abbrev pub invariant-loop-at : goal.invariant-loop-at
invariant-loop-at l =
    (l.at ≤ l.end + 1) × (hear_all Nothing (filled (pieces (stops 32) l.line)) ≡ hear_all l.s (filled (pieces (stops 32) (drop l.at l.line))))

abbrev pub decreases-loop-at : goal.decreases-loop-at
decreases-loop-at l =
    l.end + 1 - l.at
