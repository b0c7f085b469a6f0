-- `put_call` meets its contract: the number of the call, its answer, and the call as it is listed.
use native.Mathlib.Omega.{arith}
use Rattle.lines.proofs.Chain.{three}
use Rattle.outcome.specs.Outcome.{call_line}
use Rattle.text.proofs.Width.{length-decimal}
use Rattle.text.proofs.Written.{then}
use Rattle.outcome.proofs.put_call.Goals as goal

pub put-at-requires-2 : goal.put-at-requires-2
put-at-requires-2 c =
    omega (arith, length-decimal c.args.i)

pub put_decimal-at-requires-2 : goal.put_decimal-at-requires-2
put_decimal-at-requires-2 c =
    omega (arith, length-decimal c.args.i)

pub put-at-requires-3 : goal.put-at-requires-3
put-at-requires-3 c =
    let a = c.args in omega (arith, length-decimal a.i, length-decimal a.answer)

pub put_call-requires : goal.put_call-requires
put_call-requires c =
    let a = c.args in omega (arith, length-decimal a.i, length-decimal a.answer)

pub returns : goal.returns
unfolding call_line
returns c =
    let a = c.args in three c.put-at.ensures c.put_decimal-at.ensures
    (three c.put-at-2.ensures c.put_decimal-at-2.ensures
    (then c.put-at-3.ensures c.put_call.ensures (omega (arith, length-decimal a.i, length-decimal a.answer)))
    (omega (arith, length-decimal a.i)))
    (omega arith)
