-- `close` meets its contract: what is closed of the first d levels is what is closed of all.
use Prim.Native.Nat.{◌-◌, ◌≤◌}
use mathlib.Core.Path.{◌≡◌}
use Rattle.threshold_block.specs.Inner.{opened}
use Rattle.threshold_sets.specs.Check.{closed_levels}
use Rattle.threshold_block.proofs.close.Given as goal

abbrev pub invariant-loop-d : goal.invariant-loop-d
invariant-loop-d l =
    (l.d ≤ l.depth) × (closed_levels (opened l.levels l.d) ≡ closed_levels (opened l.levels l.depth))

abbrev pub decreases-loop-d : goal.decreases-loop-d
decreases-loop-d l =
    l.d
