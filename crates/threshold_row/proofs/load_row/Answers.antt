-- `load_row` meets its contract: the count and the masks, and after k turns k numbers of pairs; the last set has a number of its own.
use mathlib.Core.Path.{◌∙◌}
use native.Mathlib.Omega.{arith}
use lib.ListN.{length-set}
use Rattle.threshold_row.proofs.Load.{pairs-hold, pairs-again, pairs-done}
use Rattle.threshold_row.proofs.load_row.Goals as goal

pub loop-k-init : goal.loop-k-init
loop-k-init c =
    let a = c.args in let loaded = c.load_masks in (omega arith, c.load_masks.auto.m ∙ c.requires.m_len, c.load_masks.auto.m ∙ c.requires.m_len, pairs-hold a.b.now _ a.m.now c.load_masks.ensures)

pub loop-k-preserved : goal.loop-k-preserved
loop-k-preserved c =
    let l = c.loop-k in let a = c.args in (
      omega arith,
      c.loop-k.invariant.1,
      simp length-set c.loop-k.invariant.2,
      pairs-again a.b.now c.loop-k.m _ c.loop-k.k c.four.result (rw c.loop-k.invariant.1 (omega arith)) c.loop-k.invariant.3 c.four.ensures,
    )

pub returns : goal.returns
returns c =
    let l = c.loop-k in let a = c.args in pairs-done a.b.now c.loop-k.m _ c.loop-k.k c.get16.result (omega arith) c.loop-k.invariant.1 c.loop-k.invariant.3 c.get16.ensures
