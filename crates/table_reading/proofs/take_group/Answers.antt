-- Refused, or joined to its row.
use native.Mathlib.Omega.{arith}
use Rattle.table_reading.proofs.Steps.{few-here, joins, stops}
use Rattle.ground.proofs.Pieces.{part_cut, length_part}
use Rattle.table_reading.proofs.take_group.Goals as goal

pub join-requires : goal.join-requires
join-requires c =
    let a = c.args in let o = c.own-u in let g = c.group_check-p in record {
      m_len = rw (part_cut 63 c.own-u.result a.t.now) (length_part 63 c.own-u.result 64 a.t.now (omega arith) (omega arith));
      m_bound = few-here a.s a.t.now c.own-u.result c.group_check-p.result
          c.own-u.ensures c.group_check-p.ensures c.in_default.is;
    }

pub returns-in_default : goal.returns-in_default
returns-in_default c =
    let a = c.args in let o = c.own-u in joins a.s a.t.now c.own-u.result c.group_check-p.result c.own-u.ensures c.group_check-p.ensures _ c.in_default.is
    c.join.ensures

pub returns : goal.returns
returns c =
    let a = c.args in let o = c.own-u in stops a.s a.t.now c.own-u.result c.group_check-p.result c.own-u.ensures c.group_check-p.ensures _ _ c.in-Err.is c.at.ensures
