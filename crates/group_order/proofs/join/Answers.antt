-- `join` meets its contract: one law for each way out.
use mathlib.Core.Path.{ap, ◌∙◌}
use native.Mathlib.Omega.{arith}
use Rattle.group_order.specs.Joined.{joined}
use Prim.Native.Nat.{ℕ, ◌+◌}
use mathlib.Core.List.{List}
use lib.ListN.{set}
use Rattle.rows.specs.Site.{count}
use Rattle.group_order.proofs.Laws.{headed}
use Rattle.group_order.proofs.join.Goals as goal

pub returns : goal.returns
unfolding joined
returns c =
    ap (λ (t : List ℕ). set t 0 (count c.args.m.now + 1)) c.sift.ensures
    ∙ headed c.args.m.now _ _ (omega arith)
