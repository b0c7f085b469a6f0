-- `put_lines` meets its contract: after i turns the lines of the first i calls stand in the room.
use mathlib.Core.Path.{◌≡◌}
use lib.ListN.{length}
use Rattle.calls_listed.specs.Listed.{said_at}
use Rattle.ground.specs.Pieces.{cat}
use Rattle.text.specs.Written.{Writes}
use Rattle.calls_listed.proofs.put_lines.Given as goal

abbrev pub invariant-loop-i : goal.invariant-loop-i
invariant-loop-i l =
    (length l.room ≡ length l.initial.room) × Writes (cat (said_at l.list) l.i) l.initial.room 0 l.end l.room
