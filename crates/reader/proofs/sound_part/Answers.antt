-- `sound_part` meets its contract: the check's answer says whether the journal or none of it is handed on.
use mathlib.Core.Path.{sym, ◌∙◌}
use Rattle.reader.proofs.Part.{all-of-it, none-of-it}
use Rattle.reader.proofs.sound_part.Goals as goal

pub returns-in-Ok : goal.returns-in-Ok
returns-in-Ok c =
    sym (all-of-it c.args.journal.now _ _ (sym c.check.ensures ∙ c.in-Ok.is))

pub returns-in-Err : goal.returns-in-Err
returns-in-Err c =
    sym (none-of-it c.args.journal.now _ (sym c.check.ensures ∙ c.in-Err.is))
