-- `has_slice` meets its contract: every site sees the same slices.
use mathlib.Core.Path.{◌∙◌}
use Rattle.sets.proofs.Rows.{slice-asked}
use Rattle.asking.proofs.has_slice.Goals as goal

pub returns : goal.returns
returns c =
    c.has_slice.ensures ∙ slice-asked c.args.table.now c.args.n c.args.receiver c.args.u c.args.w
