-- `check_block` meets its contract: one law for each way out, and the last is what the sets that it holds are refused for.
use mathlib.Core.Path.{sym, ◌∙◌}
use Rattle.block.proofs.Laws.{says-sealed, says-unsealed}
use Rattle.threshold_block.proofs.Block.{wrong-sums, wrong-site, wrong-n, wrong-zero, right-head}
use Rattle.threshold_block.proofs.check_block.Goals as goal

pub returns-then-check-ne0 : goal.returns-then-check-ne0
returns-then-check-ne0 c =
    sym (wrong-sums c.args.n c.args.site c.args.place c.args.b.now (says-unsealed _ c.requires.b_len (λ e. c.if-check-ne0.true (c.check.ensures ∙ e))))

pub returns-then-get16-site : goal.returns-then-get16-site
returns-then-get16-site c =
    let a = c.args in sym (wrong-site a.n a.site a.place a.b.now (says-sealed _ (sym c.check.ensures ∙ c.if-check-ne0.false)) (λ e. c.if-get16-site.true (c.get16.ensures ∙ e)))

pub returns-then-get16-n : goal.returns-then-get16-n
returns-then-get16-n c =
    let a = c.args in sym (wrong-n a.n a.site a.place a.b.now (says-sealed _ (sym c.check.ensures ∙ c.if-check-ne0.false)) (λ e. c.if-get16-n.true (c.get16-2.ensures ∙ e)))

pub returns-then-get16-ne0 : goal.returns-then-get16-ne0
returns-then-get16-ne0 c =
    let a = c.args in sym (wrong-zero a.n a.site a.place a.b.now (says-sealed _ (sym c.check.ensures ∙ c.if-check-ne0.false)) (λ e. c.if-get16-ne0.true (c.get16-3.ensures ∙ e)))

pub returns : goal.returns
returns c =
    let a = c.args in c.check_held.ensures
    ∙ sym (right-head a.n a.site a.place a.b.now (says-sealed _ (sym c.check.ensures ∙ c.if-check-ne0.false))
    (sym c.get16.ensures ∙ c.if-get16-site.false)
    (sym c.get16-2.ensures ∙ c.if-get16-n.false) (sym c.get16-3.ensures ∙ c.if-get16-ne0.false))
