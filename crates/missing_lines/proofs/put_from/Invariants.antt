-- `put_from` meets its contract: after v turns the lines to the first v receivers stand in the room.
use mathlib.Core.Path.{◌≡◌}
use lib.ListN.{length}
use Rattle.ground.specs.Pieces.{cat}
use Rattle.missing_lines.specs.Missing.{missing_line}
use Rattle.text.specs.Written.{Writes}
use Rattle.missing_lines.proofs.put_from.Given as goal

abbrev pub invariant-loop-v : goal.invariant-loop-v
invariant-loop-v l =
    (length l.room ≡ length l.initial.room) × Writes (cat (missing_line l.among l.side l.list l.accepters l.u) l.v) l.initial.room l.at l.end l.room
