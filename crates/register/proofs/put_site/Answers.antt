-- `put_site` meets its contract: the number, the word of the mark, and what the entry is worth.
use native.Mathlib.Omega.{arith}
use lib.Dec.{eqb}
use Rattle.lines.proofs.Chain.{as-text, three}
use Rattle.mark.specs.Mark.{mark}
use Rattle.register.proofs.Rows.{site-line, long-mark}
use Rattle.text.proofs.Width.{length-decimal}
use Rattle.text.proofs.Written.{then}
use Rattle.register.proofs.put_site.Goals as goal

pub put_mark-at-requires : goal.put_mark-at-requires
put_mark-at-requires c =
    omega (arith, length-decimal c.args.v)

pub put_worth-requires : goal.put_worth-requires
put_worth-requires c =
    let a = c.args in record { at_in_bounds = omega (arith, length-decimal a.v, long-mark (eqb (mark a.v a.drill a.live) 1)); v_bound = c.requires.v_bound }

pub returns : goal.returns
returns c =
    let a = c.args in as-text (site-line a.n a.faulty a.whole a.drill a.live a.v)
    (three c.put-at.ensures c.put_decimal-at.ensures
    (then c.put_mark-at.ensures c.put_worth.ensures (omega (arith, length-decimal a.v))) (omega arith))
