-- `put_first` meets its contract: three lines, one behind the other.
use Prim.Native.Nat.{ℕ}
use mathlib.Core.Path.{ap}
use native.Mathlib.Omega.{arith}
use Rattle.lines.proofs.Chain.{as-text, three}
use Rattle.lines.proofs.Lengths.{decimal-line, mask-line}
use Rattle.lines.specs.Lines.{line}
use Rattle.risk_text.specs.Inner.{first_lines}
use Rattle.text.specs.Text.{ascii, decimal}
use Rattle.risk_text.proofs.put_first.Goals as goal

pub line_mask-at-requires : goal.line_mask-at-requires
line_mask-at-requires c =
    omega (arith, decimal-line (ascii "fewest ") c.size-fewest.result)

pub line_members-requires : goal.line_members-requires
line_members-requires c =
    omega (arith, decimal-line (ascii "fewest ") c.size-fewest.result, mask-line (ascii "first ") c.args.first)

pub returns : goal.returns
unfolding first_lines
returns c =
    three (as-text (ap (λ (x : ℕ). line (ascii "fewest ") (decimal x)) c.size-fewest.ensures) c.line_decimal-at.ensures) c.line_mask-at.ensures
    c.line_members.ensures (omega arith)
