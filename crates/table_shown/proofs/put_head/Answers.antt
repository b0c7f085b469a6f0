-- `put_head` meets its contract: one law for each way out.
use native.Mathlib.Omega.{arith}
use Rattle.table_shown.specs.Show.{head_line}
use Rattle.text.proofs.Width.{length-decimal}
use Rattle.lines.proofs.Chain.{three}
use Rattle.table_shown.proofs.put_head.Goals as goal

pub put-requires : goal.put-requires
put-requires c =
    omega (arith, length-decimal c.args.n)

pub returns : goal.returns
unfolding head_line
returns c =
    three c.put-at.ensures
    c.put_decimal-at.ensures c.put.ensures (omega arith)
