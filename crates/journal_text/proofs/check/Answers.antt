-- `check` meets its contract: the lines of a sound journal, or the refusal.
use mathlib.Core.Path.{sym, ◌∙◌}
use Rattle.lines.proofs.Chain.{as-text, both}
use Rattle.journal_text.proofs.Ways.{check_sound, check-refused}
use Rattle.journal_text.proofs.check.Goals as goal

pub returns-in-Ok : goal.returns-in-Ok
returns-in-Ok c =
    let r = both (as-text (check_sound c.args.journal.now _ _ (sym c.check.ensures ∙ c.in-Ok.is)) c.put_counts.ensures) in record { text = r.0; counts = r.1 }

pub returns-in-Err : goal.returns-in-Err
returns-in-Err c =
    let r = both (as-text (check-refused c.args.journal.now _ (sym c.check.ensures ∙ c.in-Err.is)) c.put_explained.ensures) in record { text = r.0; counts = r.1 }
