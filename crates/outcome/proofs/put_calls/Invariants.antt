-- `put_calls` meets its contract: after i turns the lines of the first i calls stand in the room.
-- the line of call i
use Prim.Native.Nat.{ℕ, ◌+◌, ◌*◌}
use mathlib.Core.List.{List}
use mathlib.Core.Path.{◌≡◌}
use lib.ListN.{length, get_or}
use Rattle.ground.specs.Pieces.{cat}
use Rattle.outcome.specs.Outcome.{call_line}
use Rattle.text.specs.Written.{Writes}
use Rattle.outcome.proofs.put_calls.Given as goal

abbrev row : List ℕ → List ℕ → ℕ → List ℕ
row list answers i = call_line i (get_or answers i 0) (get_or list (4 * i) 0) (get_or list (4 * i + 1) 0) (get_or list (4 * i + 2) 0) (get_or list (4 * i + 3) 0)

abbrev pub invariant-loop-i : goal.invariant-loop-i
invariant-loop-i l =
    (length l.room ≡ length l.initial.room) × Writes (cat (row l.list l.answers) l.i) l.initial.room l.at l.end l.room
