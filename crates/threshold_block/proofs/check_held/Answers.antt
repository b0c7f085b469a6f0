-- `check_held` meets its contract: each way out is the definition at what was found before it.
use mathlib.Core.Path.{sym, ◌∙◌}
use native.Mathlib.Omega.{arith}
use Rattle.refusals.proofs.Passed.{passed_on}
use Rattle.threshold_block.proofs.Block.{no-set, too-many-sets, set-refused, unclean, clean}
use Rattle.threshold_block.proofs.check_held.Goals as goal

pub returns-then-many-eq0 : goal.returns-then-many-eq0
returns-then-many-eq0 c =
    let a = c.args in sym (no-set a.n a.place a.b.now (omega (arith, c.get16-many.ensures)))

pub returns-then-many-gt49 : goal.returns-then-many-gt49
returns-then-many-gt49 c =
    let a = c.args in sym (too-many-sets a.n a.place a.b.now (omega (arith, c.get16-many.ensures)))

pub returns-in_err-check_sets : goal.returns-in_err-check_sets
returns-in_err-check_sets c =
    let a = c.args in let many = c.get16-many.ensures in let e = c.in_err-check_sets.was in passed_on c.from_residual.result c.from_residual.ensures.1 ∙ (sym
    (set-refused a.n a.place a.b.now (λ z. omega (arith, c.get16-many.ensures)) (omega (arith, c.get16-many.ensures)) c.get16-many.ensures c.check_sets.ensures _ e))

pub returns-then-is_unfilled : goal.returns-then-is_unfilled
returns-then-is_unfilled c =
    let a = c.args in let many = c.get16-many.ensures in sym (unclean a.n a.place a.b.now (λ z. omega (arith, c.get16-many.ensures)) (omega (arith, c.get16-many.ensures)) c.get16-many.ensures c.check_sets.ensures
    c.in_ok-check_sets.was (sym c.is_unfilled.ensures ∙ c.if-is_unfilled.true))

pub returns : goal.returns
returns c =
    let a = c.args in let many = c.get16-many.ensures in sym (clean a.n a.place a.b.now (λ z. omega (arith, c.get16-many.ensures)) (omega (arith, c.get16-many.ensures)) c.get16-many.ensures c.check_sets.ensures
    c.in_ok-check_sets.was (sym c.is_unfilled.ensures ∙ c.if-is_unfilled.false))
