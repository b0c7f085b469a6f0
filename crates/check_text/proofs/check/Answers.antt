-- `check` meets its contract: the line of a sound image, or the refusal.
use mathlib.Core.Path.{sym, ◌∙◌}
use Rattle.lines.proofs.Chain.{as-text, both}
use Rattle.check_text.proofs.Ways.{check_sound, check-refused}
use Rattle.check_text.proofs.check.Goals as goal

pub returns-in-Ok : goal.returns-in-Ok
returns-in-Ok c =
    let r = both (as-text (check_sound c.args.image.now _ (sym c.read-q.ensures.answer ∙ c.in-Ok.is)) c.line_decimal.ensures) in record { text = r.0; counts = r.1 }

pub returns-in-Err : goal.returns-in-Err
returns-in-Err c =
    let r = both (as-text (check-refused c.args.image.now _ (sym c.read-q.ensures.answer ∙ c.in-Err.is)) c.put_explained.ensures) in record { text = r.0; counts = r.1 }
