-- `copy_calls` meets its contract: after j turns the first j bytes stand in the room.
use Prim.Native.Nat.{◌-◌, ◌≤◌}
use mathlib.Core.List.{◌++◌}
use mathlib.Core.Path.{◌≡◌}
use lib.ListN.{length, take, drop}
use Rattle.journal_calls.proofs.copy_calls.Given as goal

abbrev pub invariant-loop-j : goal.invariant-loop-j
invariant-loop-j l =
    (l.j ≤ length l.initial.room) × (length l.room ≡ length l.initial.room) × (l.room ≡ take l.j (drop 4 l.b) ++ drop l.j l.initial.room)
