-- `put_rows` meets its contract: one law for each way out.
use mathlib.Core.Path.{◌≡◌}
use Rattle.table_shown.specs.Show.{row}
use Prim.Native.Nat.{◌+◌, ◌*◌, ◌≤◌}
use lib.ListN.{length}
use Rattle.table.specs.Table.{site_of}
use Rattle.text.specs.Written.{Writes}
use Rattle.ground.specs.Pieces.{cat}
use Rattle.table_shown.proofs.put_rows.Given as goal

abbrev pub invariant-loop-v : goal.invariant-loop-v
invariant-loop-v l =
    (length l.room ≡ length l.initial.room) × (l.end ≤ l.at + 12032 * l.v) × Writes (cat (λ w. row w (site_of l.table w)) l.v) l.initial.room l.at l.end l.room
