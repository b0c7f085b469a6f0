-- `in_quorum` meets its contract: it asks for the receiver in the largest quorum.
use mathlib.Core.Path.{◌∙◌}
use Rattle.sets.proofs.Rows.{quorum-asked}
use Rattle.asking.proofs.in_quorum.Goals as goal

pub returns : goal.returns
returns c =
    c.in_largest.ensures ∙ quorum-asked c.args.table.now c.args.n c.args.receiver c.args.w
