-- `put_boths` meets its contract: after v turns the lines of the first v sites stand in the room.
use mathlib.Core.Path.{◌≡◌}
use lib.ListN.{length}
use Rattle.ground.specs.Pieces.{cat}
use Rattle.text.specs.Written.{Writes}
use Rattle.same_lines.specs.SameLines.{both_line}
use Rattle.same_lines.proofs.put_boths.Given as goal

abbrev pub invariant-loop-v : goal.invariant-loop-v
invariant-loop-v l =
    (length l.room ≡ length l.initial.room) × Writes (cat (both_line l.a l.b) l.v) l.initial.room l.at l.end l.room
