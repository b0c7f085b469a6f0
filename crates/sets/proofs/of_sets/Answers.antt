-- `of_sets` meets its contract: the first number of the row stands at 63 v.
use mathlib.Core.Path.{sym, ap}
use lib.Dec.{ltb}
use Rattle.table.proofs.Table.{count_at}
use Rattle.sets.proofs.of_sets.Goals as goal

pub returns : goal.returns
returns c =
    ap (ltb 62) (sym (count_at c.args.table.now c.args.v))
