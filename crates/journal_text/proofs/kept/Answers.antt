-- `kept` meets its contract: the lines of a list that was written, or the writer's refusal.
use mathlib.Core.Path.{sym, ◌∙◌}
use Rattle.lines.proofs.Chain.{as-text, both}
use Rattle.journal_text.proofs.Ways.{kept-sound, kept-refused}
use Rattle.journal_text.proofs.kept.Goals as goal

pub returns-in-Ok : goal.returns-in-Ok
returns-in-Ok c =
    let r = both (as-text (kept-sound c.args.list.now _ (sym c.requires ∙ c.in-Ok.is)) c.put_counts.ensures) in record { text = r.0; counts = r.1 }

pub returns-in-Err : goal.returns-in-Err
returns-in-Err c =
    let r = both (as-text (kept-refused c.args.list.now _ (sym c.requires ∙ c.in-Err.is)) c.put_explained.ensures) in record { text = r.0; counts = r.1 }
