-- `put_all` meets its contract: after u turns the lines of the first u senders stand in the room.
use mathlib.Core.Path.{◌≡◌, refl, ◌∙◌}
use native.Mathlib.Omega.{arith}
use Rattle.missing_lines.proofs.Missing.{length-senders}
use Rattle.missing_lines.specs.Missing.{missing_from, missing_lines}
use Rattle.register.proofs.Rows.{no_row, row_more}
use Rattle.missing_lines.proofs.put_all.Goals as goal

pub loop-u-init : goal.loop-u-init
loop-u-init c =
    let a = c.args in (refl, no_row (missing_from a.n a.among a.side a.list.now a.accepters) a.room.now a.at (omega (arith, c.requires.at_in_bounds)))

pub put_from-end-requires : goal.put_from-end-requires
put_from-end-requires c =
    let a = c.args in let l = c.loop-u in record {
      n_bound = c.requires.n_bound;
      u_bound = omega arith;
      at_in_bounds = omega
          (arith, c.requires.n_bound, c.requires.at_in_bounds, c.loop-u.invariant.1.place, length-senders a.among a.side a.list.now a.accepters a.n c.loop-u.u c.requires.n_bound);
    }

pub loop-u-preserved : goal.loop-u-preserved
loop-u-preserved c =
    let a = c.args in let l = c.loop-u in let p = c.put_from-end in (
      c.put_from-end.auto.room ∙ c.loop-u.invariant.0,
      row_more (missing_from a.n a.among a.side a.list.now a.accepters) c.loop-u.u c.loop-u.invariant.1 c.put_from-end.ensures (omega (arith, c.requires.at_in_bounds)),
    )

pub shape_of-room : goal.shape_of-room
shape_of-room c =
    c.loop-u.invariant.0

pub returns : goal.returns
unfolding missing_lines
returns c =
    let l = c.loop-u in let e : c.loop-u.u ≡ c.args.n = omega arith in
    rw e at c.loop-u.invariant.1
