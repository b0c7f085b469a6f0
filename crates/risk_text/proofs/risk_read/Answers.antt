-- `risk_read` meets its contract: one law for each way out.
use mathlib.Core.Path.{sym, ◌∙◌}
use Rattle.lines.proofs.Chain.{as-text}
use Rattle.sets.proofs.Groups.{checked-rows}
use Rattle.sets.specs.Groups.{lists}
use Rattle.risk_text.proofs.Ways.{read-refused, read-large, read-lines}
use Rattle.risk_text.proofs.risk_read.Goals as goal

pub returns-in-Err : goal.returns-in-Err
returns-in-Err c =
    as-text (read-refused (lists c.args.table.now) _ (sym c.check-q.ensures ∙ c.in-Err.is)) c.put_explained.ensures

pub returns-then-n-gt-MOST : goal.returns-then-n-gt-MOST
returns-then-n-gt-MOST c =
    as-text
    (read-large (lists c.args.table.now) (sym c.check-q.ensures ∙ c.in_default.is) c.if-n-gt-MOST.true)
    c.put_explained-then-n-gt-MOST.ensures

pub put_risk-requires : goal.put_risk-requires
put_risk-requires c =
    record { in_bounds = c.requires; rows = checked-rows c.args.table.now (sym c.check-q.ensures ∙ c.in_default.is); n_bound = c.if-n-gt-MOST.false }

pub returns : goal.returns
returns c =
    as-text
    (read-lines c.args.table.now (sym c.check-q.ensures ∙ c.in_default.is) c.if-n-gt-MOST.false)
    c.put_risk.ensures
