-- `put_side` meets its contract: the lines of the missing calls; where they are none, that none is missing.
use native.Mathlib.Omega.{arith}
use Rattle.lines.proofs.Chain.{as-text}
use Rattle.missing_lines.proofs.Said.{some_written, none_written}
use Rattle.text.proofs.Written.{then}
use Rattle.missing_lines.proofs.put_side.Goals as goal

pub returns-then-end-at : goal.returns-then-end-at
returns-then-end-at c =
    let a = c.args in as-text (some_written a.n a.among a.side a.list.now a.accepters c.put_all-end.ensures.place c.if-end-at.true) c.put_all-end.ensures

pub returns : goal.returns
returns c =
    let a = c.args in as-text (none_written a.n a.among a.side a.list.now a.accepters c.put_all-end.ensures.place c.if-end-at.false)
    (then c.put_all-end.ensures c.put_complete.ensures (omega arith))
