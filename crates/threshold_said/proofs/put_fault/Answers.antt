-- Six texts, one behind the other.
use native.Mathlib.Omega.{arith}
use Rattle.threshold_said.specs.MakeText.{threshold_fault_lines}
use Rattle.threshold_said.proofs.Ways.{length-opening, six}
use Rattle.threshold_wanted.proofs.Lengths.{length-wanted}
use Rattle.text.proofs.Width.{length-decimal}
use Rattle.threshold_said.proofs.put_fault.Goals as goal

pub put-at-requires : goal.put-at-requires
put-at-requires c =
    omega (arith, length-opening c.args.why)

pub put_decimal-at-requires : goal.put_decimal-at-requires
put_decimal-at-requires c =
    omega (arith, length-opening c.args.why)

pub put-at-requires-2 : goal.put-at-requires-2
put-at-requires-2 c =
    let a = c.args in omega (arith, length-opening a.why, length-decimal a.line)

pub put_wanted-at-requires : goal.put_wanted-at-requires
put_wanted-at-requires c =
    let a = c.args in omega (arith, length-opening a.why, length-decimal a.line)

pub put-requires : goal.put-requires
put-requires c =
    let a = c.args in omega (arith, length-opening a.why, length-decimal a.line, length-wanted a.why)

pub returns : goal.returns
unfolding threshold_fault_lines
returns c =
    six c.put_opening-at.ensures c.put-at.ensures c.put_decimal-at.ensures c.put-at-2.ensures c.put_wanted-at.ensures c.put.ensures (omega arith)
