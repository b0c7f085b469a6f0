-- `put_complete` meets its contract: one law for each side.
use Rattle.lines.proofs.Chain.{as-text}
use Rattle.missing_lines.proofs.Missing.{complete-drill, complete-live}
use Rattle.missing_lines.proofs.put_complete.Goals as goal

pub returns-then-side-eq0 : goal.returns-then-side-eq0
returns-then-side-eq0 c =
    as-text (complete-drill c.args.side c.if-side-eq0.true) c.put.ensures

pub returns : goal.returns
returns c =
    as-text (complete-live c.args.side c.if-side-eq0.false) c.put-2.ensures
