-- `line_sides` meets its contract: a word, two masks and the end of the line.
use native.Mathlib.Omega.{arith}
use Rattle.lines.proofs.Chain.{five}
use Rattle.lines.specs.Lines.{line, sides}
use Rattle.text.proofs.Width.{length-mask}
use Rattle.lines.proofs.line_sides.Goals as goal

pub put-at-requires-2 : goal.put-at-requires-2
put-at-requires-2 c =
    omega (arith, length-mask c.args.drill)

pub put_mask-at-requires-2 : goal.put_mask-at-requires-2
put_mask-at-requires-2 c =
    omega (arith, length-mask c.args.drill)

pub put-requires : goal.put-requires
put-requires c =
    omega (arith, length-mask c.args.drill, length-mask c.args.live)

pub returns : goal.returns
unfolding sides line
returns c =
    five c.put-at.ensures c.put_mask-at.ensures c.put-at-2.ensures c.put_mask-at-2.ensures c.put.ensures (omega arith)
