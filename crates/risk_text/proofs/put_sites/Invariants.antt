-- `put_sites` meets its contract: after v turns the lines of the first v sites stand in the room.
use Prim.Native.Nat.{◌-◌, ◌≤◌}
use mathlib.Core.Path.{◌≡◌}
use lib.ListN.{length}
use Rattle.ground.specs.Pieces.{cat}
use Rattle.risk_text.specs.RiskText.{risk_line}
use Rattle.sets.specs.Inner.Rows.{rules_of}
use Rattle.text.specs.Written.{Writes}
use Rattle.risk_text.proofs.put_sites.Given as goal

abbrev pub invariant-loop-v : goal.invariant-loop-v
invariant-loop-v l =
    (l.v ≤ l.n) × (length l.room ≡ length l.initial.room) × Writes (cat (risk_line (rules_of l.table) l.n) l.v) l.initial.room 0 l.end l.room

abbrev pub decreases-loop-v : goal.decreases-loop-v
decreases-loop-v l =
    l.n - l.v
