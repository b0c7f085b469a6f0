-- `put_lacking` meets its contract: three texts, one behind the other.
use native.Mathlib.Omega.{arith}
use Rattle.lines.proofs.Chain.{three}
use Rattle.missing_lines.proofs.Missing.{length-side}
use Rattle.missing_lines.proofs.Missing.{length-unmet}
use Rattle.missing_lines.proofs.put_lacking.Goals as goal

pub put_side-at-requires : goal.put_side-at-requires
put_side-at-requires c =
    record { n_bound = c.requires.n_bound; at_in_bounds = omega (arith, c.requires.in_bounds, length-unmet c.args.meet) }

pub put_side-requires : goal.put_side-requires
put_side-requires c =
    let a = c.args in record { n_bound = c.requires.n_bound; at_in_bounds = omega (arith, c.requires.in_bounds, length-unmet a.meet, length-side a.n a.intact 0 a.list.now a.drill c.requires.n_bound) }

pub returns : goal.returns
returns c =
    three c.put_unmet-at.ensures c.put_side-at.ensures c.put_side.ensures (omega arith)
