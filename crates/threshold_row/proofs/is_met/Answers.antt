-- `is_met` meets its contract: the root is set 0, and four levels are left there.
use Prim.Native.Nat.{ℕ}
use mathlib.Core.Path.{ap}
use lib.Dec.{eqb}
use Rattle.threshold_sets.specs.Met.{root_met}
use Rattle.threshold_row.proofs.is_met.Goals as goal

pub returns : goal.returns
unfolding root_met
returns c =
    ap (λ (x : ℕ). eqb x 1) c.set_at-root.ensures.0.met-so
