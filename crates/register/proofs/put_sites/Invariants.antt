-- `put_sites` meets its contract: after v turns the lines of the first v sites stand in the room.
use mathlib.Core.Path.{◌≡◌}
use lib.ListN.{length}
use Rattle.ground.specs.Pieces.{cat}
use Rattle.register.specs.Register.{site_line}
use Rattle.text.specs.Written.{Writes}
use Rattle.register.proofs.put_sites.Given as goal

abbrev pub invariant-loop-v : goal.invariant-loop-v
invariant-loop-v l =
    (length l.room ≡ length l.initial.room) × Writes (cat (site_line l.n l.faulty l.whole l.drill l.live) l.v) l.initial.room l.at l.end l.room
