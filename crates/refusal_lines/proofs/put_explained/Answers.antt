-- `put_explained` meets its contract: the refusal, what it means, and the end of the line.
use native.Mathlib.Omega.{arith}
use Rattle.leaflet.proofs.Lengths.{length-meaning}
use Rattle.lines.proofs.Chain.{three}
use Rattle.refusal_lines.proofs.Lengths.{length-refused}
use Rattle.lines.specs.Lines.{line}
use Rattle.refusal_lines.specs.Refused.{explained}
use Rattle.refusal_lines.proofs.put_explained.Goals as goal

pub put_meaning-at-requires : goal.put_meaning-at-requires
put_meaning-at-requires c =
    omega (arith, length-refused c.args.r)

pub put-requires : goal.put-requires
put-requires c =
    let r = c.args.r in omega (arith, length-refused r, length-meaning r)

pub returns : goal.returns
unfolding explained line
returns c =
    three c.put_refused-at.ensures c.put_meaning-at.ensures c.put.ensures (omega arith)
