-- `line_members` meets its contract: a word, the sites and the end of the line.
use native.Mathlib.Omega.{arith}
use Rattle.lines.proofs.Chain.{three}
use Rattle.lines.specs.Lines.{line}
use Rattle.members.proofs.Laws.{length-members}
use Rattle.members.proofs.line_members.Goals as goal

pub put-requires : goal.put-requires
put-requires c =
    omega (arith, length-members c.args.set)

pub returns : goal.returns
unfolding line
returns c =
    three c.put-at.ensures c.put_members-at.ensures c.put.ensures (omega arith)
