-- `put_all` meets its contract: after u turns the lines of the first u senders stand in the room.
use mathlib.Core.Path.{◌≡◌}
use lib.ListN.{length}
use Rattle.ground.specs.Pieces.{cat}
use Rattle.missing_lines.specs.Missing.{missing_from}
use Rattle.text.specs.Written.{Writes}
use Rattle.missing_lines.proofs.put_all.Given as goal

abbrev pub invariant-loop-u : goal.invariant-loop-u
invariant-loop-u l =
    (length l.room ≡ length l.initial.room) × Writes (cat (missing_from l.n l.among l.side l.list l.accepters) l.u) l.initial.room l.at l.end l.room
