-- `put_both` meets its contract: one law for each way out.
use mathlib.Core.Path.{sym, ◌∙◌}
use native.Mathlib.Omega.{arith}
use Rattle.lines.proofs.Chain.{as-text}
use Rattle.same_lines.proofs.Lines.{nothing_put, no-drill, no-live, both-sides}
use Rattle.same_lines.proofs.put_both.Goals as goal

pub returns-then-not-proposed : goal.returns-then-not-proposed
returns-then-not-proposed c =
    let a = c.args in as-text (no-drill a.a.now a.b.now a.v (sym c.proposed.ensures ∙ c.if-not-proposed.true)) (nothing_put a.room.now a.at (omega arith))

pub returns-then-not-proposed-2 : goal.returns-then-not-proposed-2
returns-then-not-proposed-2 c =
    let a = c.args in as-text (no-live a.a.now a.b.now a.v (sym c.proposed.ensures ∙ c.if-not-proposed.false) (sym c.proposed-2.ensures ∙ c.if-not-proposed-2.true))
    (nothing_put a.room.now a.at (omega arith))

pub returns : goal.returns
returns c =
    let a = c.args in as-text (both-sides a.a.now a.b.now a.v (sym c.proposed.ensures ∙ c.if-not-proposed.false) (sym c.proposed-2.ensures ∙ c.if-not-proposed-2.false))
    c.line_decimal.ensures
