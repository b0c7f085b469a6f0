-- `inside_listed` meets its contract: the sites below x are handed on.
use Prim.Native.Nat.{ℕ, ◌+◌, ◌*◌, ◌%◌, ◌^◌}
use mathlib.Core.Path.{◌≡◌, sym, subst}
use native.Mathlib.Omega.{arith}
use lib.Bits.{bit_and, bit_or}
use lib.Pow.{pow-lt}
use Rattle.early_quorums.specs.Inner.{Sets}
use Rattle.early_quorums.proofs.EarlyLaws.{sets-lift}
use Rattle.early_quorums.proofs.inside_listed.Goals as goal

pub overflow_shl-sets : goal.overflow_shl-sets
overflow_shl-sets c =
    omega (arith, c.single.ensures, pow-lt c.loop-x-test.true)

pub loop-x-preserved : goal.loop-x-preserved
loop-x-preserved c =
    let a = c.args in let t = a.table.now in
    let w = c.without in
    subst (λ (k : ℕ). Sets t a.v (c.loop-x.x + 1) (bit_or c.loop-x.sets (bit_and c.loop-x.sets c.without.result * 2 ^ k % 2 ^ 64))) (sym c.single.ensures)
    (sets-lift c.loop-x.x c.loop-x.sets c.without.result c.loop-x-test.true c.without.ensures t a.v c.loop-x.invariant)

pub returns : goal.returns
returns c =
    let a = c.args in let e : c.loop-x.x ≡ 6 = omega arith in
    subst (λ (k : ℕ). Sets a.table.now a.v k c.loop-x.sets) e c.loop-x.invariant
