-- `put_placed` meets its contract: one law for each way out.
use native.Mathlib.Omega.{arith}
use Rattle.table_shown.specs.Show.{placed}
use lib.Dec.{eqb}
use Rattle.text.proofs.Written.{then}
use Rattle.table_shown.proofs.Laws.{bar}
use Rattle.table_shown.proofs.put_placed.Goals as goal

pub put_members-requires : goal.put_members-requires
put_members-requires c =
    omega (arith, c.put_bar-at.ensures.place, bar (eqb c.args.k 0))

pub returns : goal.returns
unfolding placed
returns c =
    then c.put_bar-at.ensures c.put_members.ensures (omega arith)
