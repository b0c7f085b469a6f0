-- `line_decimal` meets its contract: a word, the digits and the end of the line.
use native.Mathlib.Omega.{arith}
use Rattle.lines.proofs.Chain.{three}
use Rattle.lines.specs.Lines.{line}
use Rattle.text.proofs.Width.{length-decimal}
use Rattle.lines.proofs.line_decimal.Goals as goal

pub put-requires : goal.put-requires
put-requires c =
    omega (arith, length-decimal c.args.x)

pub returns : goal.returns
unfolding line
returns c =
    three c.put-at.ensures c.put_decimal-at.ensures c.put.ensures (omega arith)
