-- `put_worth` meets its contract: one law for each way out.
use mathlib.Core.Path.{sym, ◌∙◌}
use Rattle.lines.proofs.Chain.{as-text}
use Rattle.register.proofs.Rows.{worth-faulty, worth-unknown, worth-intact, worth-befouled}
use Rattle.register.proofs.put_worth.Goals as goal

pub returns-then-has : goal.returns-then-has
returns-then-has c =
    let a = c.args in as-text (worth-faulty a.n a.faulty a.whole a.v (sym c.has.ensures ∙ c.if-has.true)) c.put.ensures

pub returns-then-n-gt-MOST : goal.returns-then-n-gt-MOST
returns-then-n-gt-MOST c =
    let a = c.args in as-text (worth-unknown a.n a.faulty a.whole a.v (sym c.has.ensures ∙ c.if-has.false) c.if-n-gt-MOST.true) c.put-then-n-gt-MOST.ensures

pub returns-then-has-2 : goal.returns-then-has-2
returns-then-has-2 c =
    let a = c.args in as-text
    (worth-intact a.n a.faulty a.whole a.v (sym c.has.ensures ∙ c.if-has.false) c.if-n-gt-MOST.false (sym c.has-2.ensures ∙ c.if-has-2.true))
    c.put-then-has-2.ensures

pub returns : goal.returns
returns c =
    let a = c.args in as-text
    (worth-befouled a.n a.faulty a.whole a.v (sym c.has.ensures ∙ c.if-has.false) c.if-n-gt-MOST.false (sym c.has-2.ensures ∙ c.if-has-2.false))
    c.put-2.ensures
