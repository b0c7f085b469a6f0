-- `now_blocked` meets its contract: the same set blocks as little as before.
use mathlib.Core.Path.{sym, ap, ◌∙◌}
use Rattle.sets.specs.Inner.Rows.{row_questions}
use Rattle.asking_since.proofs.now_blocked.Goals as goal

pub returns-then-others-before : goal.returns-then-others-before
returns-then-others-before c =
    let a = c.args in sym (ap ((row_questions a.table.now a.n).blocked a.receiver) c.if-others-before.true ∙ c.requires.before_value)
