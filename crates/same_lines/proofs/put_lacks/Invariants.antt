-- `put_lacks` meets its contract: after i turns the lines of the first i calls stand in the room.
use mathlib.Core.Path.{◌≡◌}
use lib.ListN.{length}
use Rattle.ground.specs.Pieces.{cat}
use Rattle.text.specs.Written.{Writes}
use Rattle.same_lines.specs.SameLines.{lack_line}
use Rattle.same_lines.proofs.put_lacks.Given as goal

abbrev pub invariant-loop-i : goal.invariant-loop-i
invariant-loop-i l =
    (length l.room ≡ length l.initial.room) × Writes (cat (lack_line l.word l.a l.b) l.i) l.initial.room l.at l.end l.room
