-- `load_masks` meets its contract: after i turns the room holds the count and the first i masks.
use Prim.Native.Nat.{ℕ, ◌+◌}
use mathlib.Core.Path.{ap}
use native.Mathlib.Omega.{arith}
use lib.ListN.{set, length-set}
use Rattle.threshold_row.proofs.Load.{masks-hold, masks-again, masks-done}
use Rattle.threshold_row.proofs.load_masks.Goals as goal

pub loop-i-init : goal.loop-i-init
loop-i-init c =
    let a = c.args in (
      omega arith,
      simp length-set (omega arith),
      simp length-set (omega arith),
      masks-hold a.b.now a.m.now (64 + c.get16.result) (omega arith) (ap (λ (x : ℕ). 64 + x) c.get16.ensures),
    )

pub loop-i-preserved : goal.loop-i-preserved
loop-i-preserved c =
    let a = c.args in let l = c.loop-i in (
      omega arith,
      c.loop-i.invariant.1,
      simp length-set c.loop-i.invariant.2,
      masks-again a.b.now c.loop-i.m (set a.m.now 0 (64 + c.get16.result)) c.loop-i.i c.get64.result
          (rw c.loop-i.invariant.1 (omega arith)) c.loop-i.invariant.3 c.get64.ensures,
    )

pub returns : goal.returns
returns c =
    let l = c.loop-i in let a = c.args in masks-done a.b.now c.loop-i.m a.m.now c.loop-i.i (64 + c.get16.result) (omega arith) c.loop-i.invariant.3
