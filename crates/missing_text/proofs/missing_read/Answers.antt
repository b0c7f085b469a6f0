-- `missing_read` meets its contract: the refusal of the verdict, or what the run says.
use mathlib.Core.Path.{sym, ◌∙◌}
use borrow.Author.Rules.{rules}
use Rattle.lines.proofs.Chain.{as-text}
use Rattle.missing_text.proofs.Ways.{verdict-refused}
use Rattle.sets.specs.Groups.{lists}
use Rattle.missing_text.proofs.missing_read.Goals as goal

pub missing_run-requires : goal.missing_run-requires
missing_run-requires c =
    record { in_bounds = search rules; table_len = c.requires.table_len; intact_value = sym c.in-Ok.is ∙ c.intact-standing.ensures }

pub returns-in-Err : goal.returns-in-Err
returns-in-Err c =
    let a = c.args in as-text (verdict-refused (lists a.table.now) a.faulty a.list.now _ (sym c.in-Err.is ∙ c.intact-standing.ensures)) c.put_explained.ensures

pub returns-in-Ok : goal.returns-in-Ok
returns-in-Ok c =
    c.missing_run.ensures
