-- `put_members` meets its contract: the members below u are written.
use Prim.Native.Nat.{◌+◌, ◌*◌, ◌≤◌}
use mathlib.Core.Path.{◌≡◌}
use lib.ListN.{length}
use Rattle.ground.specs.Pieces.{cat}
use Rattle.members.specs.Members.{site_shown}
use Rattle.text.specs.Written.{Writes}
use Rattle.members.proofs.put_members.Given as goal

abbrev pub invariant-loop-u : goal.invariant-loop-u
invariant-loop-u l =
    (length l.room ≡ length l.initial.room) × (l.end ≤ l.at + 3 * l.u) × Writes (cat (site_shown l.set) l.u) l.initial.room l.at l.end l.room
