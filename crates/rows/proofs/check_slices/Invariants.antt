-- `check_slices` meets its contract: all slices are sound, or those before k are, and a refusal is the first.
use Prim.Native.Nat.{◌-◌, ◌≤◌}
use mathlib.Core.Path.{◌≡◌}
use Rattle.refusals.specs.First.{first}
use Rattle.std.specs.Prelude.{Ok}
use Rattle.rows.specs.Row.{slice_check}
use Rattle.rows.specs.Site.{slice}
use Rattle.rows.proofs.check_slices.Given as goal

abbrev pub invariant-loop-k : goal.invariant-loop-k
invariant-loop-k l =
    (l.k ≤ l.many) × (l.before ≡ slice l.m (l.k - 1)) × (first (slice_check l.n l.owner l.place (slice l.m)) l.k ≡ Ok tt)

abbrev pub decreases-loop-k : goal.decreases-loop-k
decreases-loop-k l =
    l.many - l.k
