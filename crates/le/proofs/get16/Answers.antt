-- `get16` meets its contract: the two bytes are the digits of the number.
use native.Mathlib.Omega.{arith}
use Rattle.le.proofs.Laws.{field2}
use Rattle.le.proofs.get16.Goals as goal

pub returns : goal.returns
returns c =
    let a = c.args in omega (arith, field2 a.b.now a.at)
