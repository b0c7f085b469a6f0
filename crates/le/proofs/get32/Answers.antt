-- `get32` meets its contract: the four bytes are the digits of the number.
use native.Mathlib.Omega.{arith}
use Rattle.le.proofs.Laws.{field4}
use Rattle.le.proofs.get32.Goals as goal

pub returns : goal.returns
returns c =
    let a = c.args in omega (arith, field4 a.b.now a.at)
