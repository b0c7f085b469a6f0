-- `put_sites` meets its contract: after v turns the lines of the first v sites stand in the room.
use mathlib.Core.Path.{◌≡◌, refl, ap, ◌∙◌}
use native.Mathlib.Omega.{arith}
use Rattle.ground.specs.Pieces.{cat}
use Rattle.lines.proofs.Chain.{as-text}
use Rattle.register.proofs.Rows.{no_row, row_more, length-rows, length-site}
use Rattle.register.specs.Register.{site_line}
use Rattle.register.proofs.put_sites.Goals as goal

pub loop-v-init : goal.loop-v-init
loop-v-init c =
    let a = c.args in (refl, no_row (site_line a.n a.faulty a.whole a.drill a.live) a.room.now a.at (omega (arith, c.requires.n_in_bounds)))

pub put_site-end-requires : goal.put_site-end-requires
put_site-end-requires c =
    let l = c.loop-v in let a = c.args in record {
      at_in_bounds = omega (
        arith,
        c.requires.n_in_bounds,
        c.loop-v.invariant.1.place,
        length-rows (site_line a.n a.faulty a.whole a.drill a.live) 41 c.loop-v.v (length-site a.n a.faulty a.whole a.drill a.live),
      );
      v_bound = omega (arith, c.requires.n_bound);
    }

pub loop-v-preserved : goal.loop-v-preserved
loop-v-preserved c =
    let l = c.loop-v in let p = c.put_site-end in (c.put_site-end.auto.room ∙ c.loop-v.invariant.0, row_more _ c.loop-v.v c.loop-v.invariant.1 c.put_site-end.ensures (omega (arith, c.requires.n_in_bounds)))

pub shape_of-room : goal.shape_of-room
shape_of-room c =
    c.loop-v.invariant.0

pub returns : goal.returns
returns c =
    let l = c.loop-v in let a = c.args in let e : c.loop-v.v ≡ a.n = omega arith in
    as-text (ap (cat (site_line a.n a.faulty a.whole a.drill a.live)) e) c.loop-v.invariant.1
