-- `put_fault` meets its contract: the line's number and what was expected.
use native.Mathlib.Omega.{arith}
use Rattle.calls_said.proofs.Told.{length-wanted_there}
use Rattle.calls_said.specs.Faults.{fault_line}
use Rattle.lines.proofs.Chain.{five}
use Rattle.lines.specs.Lines.{line}
use Rattle.text.proofs.Width.{length-decimal}
use Rattle.calls_said.proofs.put_fault.Goals as goal

pub put-at-requires-2 : goal.put-at-requires-2
put-at-requires-2 c =
    omega (arith, length-decimal c.args.fault.line)

pub put_wanted-at-requires : goal.put_wanted-at-requires
put_wanted-at-requires c =
    omega (arith, length-decimal c.args.fault.line)

pub put-requires : goal.put-requires
put-requires c =
    let a = c.args in omega
    (arith, length-decimal a.fault.line, length-wanted_there a.fault.wanted)

pub returns : goal.returns
unfolding fault_line line
returns c =
    five c.put-at.ensures c.put_decimal-at.ensures c.put-at-2.ensures c.put_wanted-at.ensures c.put.ensures (omega arith)
