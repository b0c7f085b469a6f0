-- `put_from` meets its contract: after v turns the lines to the first v receivers stand in the room.
use mathlib.Core.Path.{◌≡◌, refl, ◌∙◌}
use native.Mathlib.Omega.{arith}
use Rattle.missing_lines.proofs.Missing.{length_to}
use Rattle.missing_lines.specs.Missing.{missing_line, missing_from}
use Rattle.register.proofs.Rows.{no_row, row_more}
use Rattle.missing_lines.proofs.put_from.Goals as goal

pub loop-v-init : goal.loop-v-init
loop-v-init c =
    let a = c.args in (refl, no_row (missing_line a.among a.side a.list.now a.accepters a.u) a.room.now a.at (omega (arith, c.requires.at_in_bounds)))

pub put_missing-end-requires : goal.put_missing-end-requires
put_missing-end-requires c =
    let a = c.args in let l = c.loop-v in record {
      at_in_bounds = omega (arith, c.requires.n_bound, c.requires.at_in_bounds, c.loop-v.invariant.1.place, length_to a.among a.side a.list.now a.accepters a.u c.loop-v.v);
      u_bound =
          c.requires.u_bound;
      v_bound = omega arith;
    }

pub loop-v-preserved : goal.loop-v-preserved
loop-v-preserved c =
    let a = c.args in let l = c.loop-v in let p = c.put_missing-end in (
      c.put_missing-end.auto.room ∙ c.loop-v.invariant.0,
      row_more (missing_line a.among a.side a.list.now a.accepters a.u) c.loop-v.v c.loop-v.invariant.1 c.put_missing-end.ensures (omega (arith, c.requires.at_in_bounds)),
    )

pub shape_of-room : goal.shape_of-room
shape_of-room c =
    c.loop-v.invariant.0

pub returns : goal.returns
unfolding missing_from
returns c =
    let l = c.loop-v in let e : c.loop-v.v ≡ c.args.n = omega arith in
    rw (← e) c.loop-v.invariant.1
