-- `line_text` meets its contract: a word, a text and the end of the line.
use native.Mathlib.Omega.{arith}
use Rattle.lines.proofs.Chain.{three}
use Rattle.lines.specs.Lines.{line}
use Rattle.lines.proofs.line_text.Goals as goal

pub returns : goal.returns
unfolding line
returns c =
    three c.put-at.ensures c.put-at-2.ensures c.put.ensures (omega arith)
