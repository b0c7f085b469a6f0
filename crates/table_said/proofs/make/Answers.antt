-- By the answer.
use mathlib.Core.Path.{sym, ap, ◌∙◌}
use Rattle.lines.proofs.Chain.{as-text, both}
use Rattle.std.specs.Prelude.{Err}
use Rattle.table_said.proofs.Ways.{nothing, by_answer}
use Rattle.table_said.proofs.make.Goals as goal

pub returns-in-Ok : goal.returns-in-Ok
returns-in-Ok c =
    let r = both (as-text (by_answer c.args.text.now _ (sym c.requires ∙ c.in-Ok.is)) c.line_decimal.ensures) in record { text = r.0; counts = r.1 }

pub returns-in-Err-Line : goal.returns-in-Err-Line
returns-in-Err-Line c =
    let e = rw c.in-Err-Line.is at c.in-Err-Line.field-0-is in
    let r = both (as-text (by_answer c.args.text.now _ (sym c.requires ∙ c.in-Err-Line.is ∙ ap Err e)) c.put_fault.ensures) in record { text = r.0; counts = r.1 }

pub returns-in-Err-Room : goal.returns-in-Err-Room
returns-in-Err-Room c =
    let e = rw c.in-Err-Room.is at c.in-Err-Room.field-0-is in
    let r = both (nothing _ _ (by_answer c.args.text.now _ (sym c.requires ∙ c.in-Err-Room.is ∙ ap Err e))) in record { text = r.0; counts = r.1 }
