-- `put_row` meets its contract: one law for each way out.
use native.Mathlib.Omega.{arith}
use Rattle.table_shown.specs.Show.{row}
use Rattle.rows.specs.Site.{count}
use Rattle.members.proofs.Laws.{two_digits}
use Rattle.table_shown.proofs.Laws.{length-groups, four}
use Rattle.table_shown.proofs.put_row.Goals as goal

pub put-at-requires : goal.put-at-requires
put-at-requires c =
    omega (arith, two_digits c.args.v (omega arith))

pub put_groups-at-requires : goal.put_groups-at-requires
put_groups-at-requires c =
    record { m_len = omega arith; many_bound = omega arith; at_in_bounds = omega (arith, two_digits c.args.v (omega arith)) }

pub put-requires : goal.put-requires
put-requires c =
    omega (
      arith,
      two_digits c.args.v
          (omega arith),
      length-groups c.args.m.now
          (count c.args.m.now),
    )

pub returns : goal.returns
unfolding row
returns c =
    four c.put_decimal-at.ensures
    c.put-at.ensures c.put_groups-at.ensures
    c.put.ensures (omega arith)
