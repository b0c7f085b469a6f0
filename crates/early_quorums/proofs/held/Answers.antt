-- `held` meets its contract: the members below v are asked.
use Prim.Native.Nat.{ℕ}
use mathlib.Core.Path.{◌≡◌, subst}
use native.Mathlib.Omega.{arith}
use Rattle.sets.specs.Inner.Rows.{rules_of}
use Rattle.early_quorums.specs.Inner.{Held}
use Rattle.early_quorums.proofs.EarlyLaws.{held_none, held_more}
use Rattle.early_quorums.proofs.held.Goals as goal

pub loop-v-init : goal.loop-v-init
loop-v-init c =
    held_none (rules_of c.args.table.now)

pub loop-v-preserved : goal.loop-v-preserved
loop-v-preserved c =
    let a = c.args in held_more (rules_of a.table.now) c.loop-v.v c.loop-v.invariant c.without.ensures c.inside.ensures

pub returns : goal.returns
returns c =
    let a = c.args in let e : c.loop-v.v ≡ 6 = omega arith in
    subst (λ (k : ℕ). Held (rules_of a.table.now) k c.loop-v.sets) e c.loop-v.invariant
