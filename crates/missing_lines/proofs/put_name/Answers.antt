-- `put_name` meets its contract: one law for each side.
use Rattle.lines.proofs.Chain.{as-text}
use Rattle.missing_lines.proofs.Missing.{name-drill, name_live}
use Rattle.missing_lines.proofs.put_name.Goals as goal

pub returns-then-side-eq0 : goal.returns-then-side-eq0
returns-then-side-eq0 c =
    as-text (name-drill c.args.side c.if-side-eq0.true) c.put.ensures

pub returns : goal.returns
returns c =
    as-text (name_live c.args.side c.if-side-eq0.false) c.put-2.ensures
