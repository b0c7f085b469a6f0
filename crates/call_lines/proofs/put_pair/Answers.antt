-- `put_pair` meets its contract: two numbers and a blank between.
use native.Mathlib.Omega.{arith}
use Rattle.lines.proofs.Chain.{three}
use Rattle.text.proofs.Width.{length-decimal}
use Rattle.call_lines.proofs.put_pair.Goals as goal

pub put-at-requires : goal.put-at-requires
put-at-requires c = omega (arith, length-decimal c.from.result)

pub put_decimal-requires : goal.put_decimal-requires
put_decimal-requires c = omega (arith, length-decimal c.from.result)

pub returns : goal.returns
returns c = three (rw c.from.ensures at c.put_decimal-at.ensures) c.put-at.ensures (rw c.from-2.ensures at c.put_decimal.ensures) (omega arith)
