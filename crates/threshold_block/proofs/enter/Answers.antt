-- `enter` meets its contract: two numbers are written, then the innermost levels that owe none are closed.
use Prim.Native.Nat.{◌-◌}
use mathlib.Core.Path.{refl, ◌∙◌}
use native.Mathlib.Omega.{arith}
use Rattle.threshold_block.proofs.Opened.{open-enter}
use lib.ListN.{length-set}
use Rattle.threshold_block.proofs.enter.Goals as goal

pub returns : goal.returns
returns c =
    let a = c.args in (
      c.close.ensures.0
          ∙ open-enter a.levels.now (a.depth - 1) a.k (omega (arith, c.requires.le_depth)) (omega (arith, c.requires.levels_len, c.requires.le_depth, c.requires.depth_bound)) refl,
      c.close.ensures.1,
      simp length-set c.requires.levels_len,
    )
