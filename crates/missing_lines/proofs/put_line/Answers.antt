-- `put_line` meets its contract: the side, the sender, the receiver and the end of the line.
use mathlib.Core.List.{◌++◌}
use native.Mathlib.Omega.{arith}
use Rattle.call_lines.specs.CallLine.{side_name}
use Rattle.lines.proofs.Chain.{as-text, three}
use Rattle.missing_lines.proofs.Missing.{length-name, three-words}
use Rattle.text.proofs.Width.{length-decimal}
use Rattle.text.specs.Text.{ascii, decimal}
use Rattle.missing_lines.proofs.put_line.Goals as goal

pub put_decimal-at-requires : goal.put_decimal-at-requires
put_decimal-at-requires c =
    omega (arith, length-name c.args.side)

pub line_decimal-requires : goal.line_decimal-requires
line_decimal-requires c =
    let a = c.args in omega (arith, length-name a.side, length-decimal c.from.result)

pub returns : goal.returns
returns c =
    let a = c.args in as-text (three-words (side_name a.side ++ ascii " ") (decimal a.u) (decimal a.v)) (three c.put_name-at.ensures (rw c.from.ensures at c.put_decimal-at.ensures) (rw c.from-2.ensures at c.line_decimal.ensures)
    (omega arith))
