-- `check_sets` meets its contract: the sets before i are sound, the open levels are those that are owed before set i, and a refusal is the first.
use Rattle.std.specs.Prelude.{Ok}
use Prim.Native.Nat.{◌-◌, ◌≤◌}
use mathlib.Core.Path.{◌≡◌}
use lib.ListN.{length}
use Rattle.refusals.specs.First.{first}
use Rattle.threshold_block.specs.Block.{sets_in}
use Rattle.threshold_block.specs.Inner.{opened}
use Rattle.threshold_sets.specs.Check.{owed, one_set_check}
use Rattle.threshold_block.proofs.check_sets.Given as goal

abbrev pub invariant-loop-i : goal.invariant-loop-i
invariant-loop-i l =
    (l.i ≤ l.many) × (length l.levels ≡ 5) × (opened l.levels l.depth ≡ owed (sets_in l.b) l.i) × (first (one_set_check l.n l.place (sets_in l.b)) l.i ≡ Ok tt)
