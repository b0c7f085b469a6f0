-- `line_mask` meets its contract: a word, the digits and the end of the line.
use native.Mathlib.Omega.{arith}
use Rattle.lines.proofs.Chain.{three}
use Rattle.lines.specs.Lines.{line}
use Rattle.text.proofs.Width.{length-mask}
use Rattle.lines.proofs.line_mask.Goals as goal

pub put-requires : goal.put-requires
put-requires c =
    omega (arith, length-mask c.args.m)

pub returns : goal.returns
unfolding line
returns c =
    three c.put-at.ensures c.put_mask-at.ensures c.put.ensures (omega arith)
