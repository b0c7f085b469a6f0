-- `show` meets its contract: one law for each way out.
use native.Mathlib.Omega.{arith}
use Rattle.table_shown.specs.Show.{show}
use lib.ListN.{length}
use Rattle.table.specs.Table.{sites}
use Rattle.table.proofs.Exact.{checked}
use Rattle.text.proofs.Written.{then}
use Rattle.table_shown.proofs.Laws.{length-head}
use Rattle.table_shown.proofs.show.Goals as goal

pub put_rows-requires : goal.put_rows-requires
put_rows-requires c =
    record {
      table = checked _ c.requires.table_value;
      at_in_bounds = omega (
        arith,
        c.put_head-at.ensures.place,
        length-head (sites (length c.args.table.now)),
      );
    }

pub returns : goal.returns
unfolding show
returns c =
    then c.put_head-at.ensures c.put_rows.ensures (omega arith)
