-- `make` meets its contract: the lines from here on, behind the calls so far, give what the whole text gives.
use Prim.Native.Nat.{◌+◌, ◌-◌, ◌%◌, ◌≤◌}
use mathlib.Core.List.{[]}
use mathlib.Core.Path.{◌≡◌}
use lib.ListN.{length, take, drop}
use Rattle.calls_text.specs.Pieces.{stops, pieces}
use Rattle.calls_text.specs.Reading.{reading}
use Rattle.calls_text.proofs.make.Given as goal

abbrev pub invariant-loop-at : goal.invariant-loop-at
invariant-loop-at l =
    (l.at ≤ length l.text + 1) × (l.number ≤ l.at + 1) × (l.n ≤ 16384) × (l.n % 4 ≡ 0) × (l.n ≤ length l.room) × (drop l.n l.room ≡ drop l.n l.initial.room)
    × (reading 1 [] (pieces (stops 10) l.text) ≡ reading l.number (take l.n l.room) (pieces (stops 10) (drop l.at l.text)))

abbrev pub decreases-loop-at : goal.decreases-loop-at
decreases-loop-at l =
    length l.text + 1 - l.at
