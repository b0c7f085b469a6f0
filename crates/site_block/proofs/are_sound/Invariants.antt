-- `are_sound` meets its contract: the slices before k are gathered.
use Prim.Native.Nat.{◌≤◌}
use Rattle.rows.proofs.Row.{Gathers}
use Rattle.site_block.specs.Block.{slice_field}
use Rattle.site_block.proofs.are_sound.Given as goal

abbrev pub invariant-loop-k : goal.invariant-loop-k
invariant-loop-k l =
    (1 ≤ l.k) × Gathers (slice_field l.b) l.k l.g.every l.g.some l.g.ascend
