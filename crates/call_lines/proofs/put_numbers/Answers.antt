-- `put_numbers` meets its contract: four numbers with a blank between, and the end of the line.
use native.Mathlib.Omega.{arith}
use Rattle.call_lines.proofs.Said.{said-numbers, length-pair}
use Rattle.lines.proofs.Chain.{as-text, three}
use Rattle.text.proofs.Width.{length-decimal}
use Rattle.text.proofs.Written.{then}
use Rattle.call_lines.proofs.put_numbers.Goals as goal

pub put-at-requires : goal.put-at-requires
put-at-requires c =
    omega (arith, length-decimal c.from.result)

pub put_pair-at-requires : goal.put_pair-at-requires
put_pair-at-requires c =
    omega (arith, length-decimal c.from.result)

pub line_decimal-requires : goal.line_decimal-requires
line_decimal-requires c =
    let a = c.args in omega (arith, length-decimal c.from.result, length-pair a.from a.to)

pub returns : goal.returns
returns c =
    let a = c.args in as-text (said-numbers a.kind a.from a.to a.side c.requires.side_value)
    (then (three (rw c.from.ensures at c.put_decimal-at.ensures) c.put-at.ensures c.put_pair-at.ensures (omega arith)) (rw c.from-2.ensures at c.line_decimal.ensures) (omega arith))
