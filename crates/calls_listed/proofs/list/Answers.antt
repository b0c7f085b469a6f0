-- `list` meets its contract: one law for each way out.
use mathlib.Core.Logic.{⊎_elim}
use Rattle.calls_listed.proofs.Ways.{odd-list, long-list, whole-list}
use Rattle.lines.proofs.Chain.{as-text, both}
use Rattle.calls_listed.proofs.list.Goals as goal

pub returns-then-list-ne0 : goal.returns-then-list-ne0
returns-then-list-ne0 c =
    let e = ⊎_elim (λ h. odd-list c.args.list.now h) (λ h. long-list c.args.list.now h.1) c.then-list-ne0.either in
    let r = both (as-text e c.put_explained.ensures) in record { text = r.0; counts = r.1 }

pub returns : goal.returns
returns c =
    let r = both (as-text (whole-list c.args.list.now c.if-list-ne0.false c.if-list-gt16384.false) c.put_lines.ensures) in record { text = r.0; counts = r.1 }
