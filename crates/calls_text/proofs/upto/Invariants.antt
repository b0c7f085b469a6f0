-- `upto` meets its contract: no byte so far stops.
use Prim.Native.Nat.{◌+◌}
use mathlib.Core.Path.{◌≡◌}
use lib.ListN.{drop}
use Rattle.calls_text.specs.Pieces.{stops, upto}
use Rattle.calls_text.proofs.upto.Given as goal

abbrev pub invariant-loop-i : goal.invariant-loop-i
invariant-loop-i l =
    l.i + upto (stops l.kind) (drop l.i l.text) ≡ l.at + upto (stops l.kind) (drop l.at l.text)
