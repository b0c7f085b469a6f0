-- `is_unfilled` meets its contract: one of the bytes behind the last set and before `at` is not zero just if all of them together are not.
use Prim.Native.Nat.{◌+◌, ◌-◌, ◌*◌}
use mathlib.Core.Bool.{not}
use mathlib.Core.Path.{◌≡◌, sym, ◌∙◌}
use native.Mathlib.Omega.{arith}
use lib.Dec.{eqb}
use lib.ListN.{get_or}
use borrow.Author.Rules.{rules}
use Rattle.ground.proofs.Some.{some-none}
use Rattle.threshold_block.proofs.Block.{filler-more, filler-all}
use Rattle.threshold_block.proofs.is_unfilled.Goals as goal

pub loop-at-init : goal.loop-at-init
loop-at-init c =
    let from = 8 + 10 * c.args.many in
    let e : from - from ≡ 0 = omega arith in
    (search rules, search rules, rw e (sym (some-none (λ j. not (eqb (get_or c.args.b.now (from + j) 0) 0)))))

pub loop-at-preserved : goal.loop-at-preserved
loop-at-preserved c =
    let l = c.loop-at in let a = c.args in (search rules, search rules, filler-more a.b.now (8 + 10 * a.many) c.loop-at.at c.loop-at.any c.loop-at.invariant.0 c.loop-at.invariant.2)

pub returns : goal.returns
returns c =
    let l = c.loop-at in c.loop-at.invariant.2 ∙ filler-all c.args.b.now c.args.many c.loop-at.at c.requires.many_value (omega arith)
