-- `put_mark` meets its contract: the word of the mark.
use mathlib.Core.Path.{sym, ap, ◌∙◌}
use lib.Dec.{eqb}
use borrow.Author.Tests.{ne_eqb}
use Rattle.lines.proofs.Chain.{as-text}
use Rattle.register.proofs.Rows.{mark-drill, mark-live}
use Rattle.register.proofs.put_mark.Goals as goal

pub returns-then-mark-eq1 : goal.returns-then-mark-eq1
returns-then-mark-eq1 c =
    let a = c.args in as-text (mark-drill a.drill a.live a.v (sym c.mark.ensures ∙ c.if-mark-eq1.true)) c.put.ensures

pub returns : goal.returns
returns c =
    let a = c.args in as-text (mark-live a.drill a.live a.v (ap (λ x. eqb x 1) (sym c.mark.ensures) ∙ ne_eqb _ 1 c.if-mark-eq1.false)) c.put-2.ensures
