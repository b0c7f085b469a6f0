-- `put_refused` meets its contract: the number, a space, the place.
use mathlib.Core.Path.{ap}
use native.Mathlib.Omega.{arith}
use Rattle.lines.proofs.Chain.{as-text, five}
use Rattle.lines.specs.Lines.{line}
use Rattle.refusal_lines.specs.Refused.{refused}
use Rattle.text.proofs.Width.{length-decimal}
use Rattle.text.specs.Text.{decimal}
use Rattle.refusal_lines.proofs.put_refused.Goals as goal

pub put-at-requires-2 : goal.put-at-requires-2
put-at-requires-2 c =
    omega (arith, length-decimal c.number.result)

pub put_decimal-at-requires-2 : goal.put_decimal-at-requires-2
put_decimal-at-requires-2 c =
    omega (arith, length-decimal c.number.result)

pub put-requires : goal.put-requires
put-requires c =
    let k = c.place in let n = c.number in omega (arith, length-decimal c.number.result, length-decimal c.place.result)

pub returns : goal.returns
unfolding refused line
returns c =
    five c.put-at.ensures (as-text (ap decimal c.number.ensures) c.put_decimal-at.ensures) c.put-at-2.ensures
    (as-text (ap decimal c.place.ensures) c.put_decimal-at-2.ensures) c.put.ensures (omega arith)
