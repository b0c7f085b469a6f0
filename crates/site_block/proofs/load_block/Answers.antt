-- `load_block` meets its contract: after k turns the room holds the count and the first k places of the block.
use native.Mathlib.Omega.{arith}
use lib.ListN.{set, length-set}
use Rattle.site_block.proofs.Load.{load-holds, load_again, load-done}
use Rattle.site_block.proofs.load_block.Goals as goal

pub loop-k-init : goal.loop-k-init
loop-k-init c =
    let a = c.args in (
      omega arith,
      simp length-set (omega arith),
      simp length-set (omega arith),
      load-holds a.b.now a.m.now c.get16.result (omega arith) c.get16.ensures,
    )

pub loop-k-preserved : goal.loop-k-preserved
loop-k-preserved c =
    let a = c.args in let l = c.loop-k in (
      omega arith,
      c.loop-k.invariant.1,
      simp length-set c.loop-k.invariant.2,
      load_again a.b.now c.loop-k.m (set a.m.now 0 c.get16.result) c.loop-k.k c.get64.result
          (rw c.loop-k.invariant.1 (omega arith)) c.loop-k.invariant.3 c.get64.ensures,
    )

pub returns : goal.returns
returns c =
    let l = c.loop-k in let a = c.args in load-done a.b.now c.loop-k.m _ c.loop-k.k (omega arith) c.loop-k.invariant.1 c.loop-k.invariant.3
