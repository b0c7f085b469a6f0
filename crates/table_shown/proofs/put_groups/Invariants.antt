-- `put_groups` meets its contract: one law for each way out.
use mathlib.Core.Path.{◌≡◌}
use Rattle.table_shown.specs.Show.{placed}
use Prim.Native.Nat.{◌+◌, ◌*◌, ◌≤◌}
use lib.ListN.{length}
use Rattle.text.specs.Written.{Writes}
use Rattle.ground.specs.Pieces.{cat}
use Rattle.table_shown.proofs.put_groups.Given as goal

abbrev pub invariant-loop-k : goal.invariant-loop-k
invariant-loop-k l =
    (length l.room ≡ length l.initial.room) × (l.end ≤ l.at + 194 * l.k) × Writes (cat (placed l.m) l.k) l.initial.room l.at l.end l.room
