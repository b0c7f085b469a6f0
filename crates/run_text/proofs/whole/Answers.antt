-- `whole` meets its contract: the sites that the verdict names, or nobody.
use mathlib.Core.Path.{sym, ap, ◌∙◌}
use Rattle.run_text.specs.Inner.{whole_of}
use Rattle.run_text.proofs.whole.Goals as goal

pub returns-in-Ok : goal.returns-in-Ok
returns-in-Ok c =
    ap whole_of (sym c.in-Ok.is ∙ c.intact-standing.ensures)

pub returns-in-Err : goal.returns-in-Err
returns-in-Err c =
    ap whole_of (sym c.in-Err.is ∙ c.intact-standing.ensures)
