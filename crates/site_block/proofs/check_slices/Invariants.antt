-- `check_slices` meets its contract: all slices are sound, or those before k are, and a refusal is the first.
use Rattle.std.specs.Prelude.{Ok}
use Prim.Native.Nat.{◌-◌, ◌≤◌}
use mathlib.Core.Path.{◌≡◌}
use Rattle.refusals.specs.First.{first}
use Rattle.rows.specs.Row.{slice_check}
use Rattle.site_block.specs.Block.{slice_field}
use Rattle.site_block.proofs.check_slices.Given as goal

abbrev pub invariant-loop-k : goal.invariant-loop-k
invariant-loop-k l =
    (l.k ≤ l.many) × (l.before ≡ slice_field l.b (l.k - 1)) × (first (slice_check l.n l.owner l.place (slice_field l.b)) l.k ≡ Ok tt)
