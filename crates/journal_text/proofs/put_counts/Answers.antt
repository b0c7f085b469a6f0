-- `put_counts` meets its contract: the two lines.
use native.Mathlib.Omega.{arith}
use Rattle.journal_text.specs.JournalText.{kept_lines}
use Rattle.lines.proofs.Lengths.{decimal-line}
use Rattle.text.proofs.Written.{then}
use Rattle.text.specs.Text.{ascii}
use Rattle.journal_text.proofs.put_counts.Goals as goal

pub line_decimal-requires : goal.line_decimal-requires
line_decimal-requires c =
    omega (arith, decimal-line (ascii "blocks ") c.args.blocks)

pub returns : goal.returns
unfolding kept_lines
returns c =
    then c.line_decimal-at.ensures c.line_decimal.ensures (omega arith)
