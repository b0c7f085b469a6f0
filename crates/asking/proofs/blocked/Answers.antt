-- `blocked` meets its contract: it asks whether the set blocks the receiver.
use mathlib.Core.Path.{◌∙◌}
use Rattle.sets.proofs.Rows.{blocked-asked}
use Rattle.asking.proofs.blocked.Goals as goal

pub returns : goal.returns
returns c =
    c.blocks-2.ensures ∙ blocked-asked c.args.table.now c.args.n c.args.receiver c.args.w
