-- `put_side` meets its contract: the word of the side.
use Rattle.call_lines.proofs.Said.{side-drill, side-live}
use Rattle.lines.proofs.Chain.{as-text}
use Rattle.call_lines.proofs.put_side.Goals as goal

pub returns-then-side-eq0 : goal.returns-then-side-eq0
returns-then-side-eq0 c = as-text (side-drill _ c.if-side-eq0.true) c.put.ensures

pub returns : goal.returns
returns c = as-text (side-live _ c.if-side-eq0.false) c.put-2.ensures
