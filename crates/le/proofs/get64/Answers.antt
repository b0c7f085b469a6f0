-- `get64` meets its contract: two fields side by side are one, and the part is what they are of.
use Prim.Native.Nat.{◌+◌, ◌-◌}
use native.Mathlib.Omega.{arith}
use lib.ListN.{take, drop}
use Rattle.le.proofs.Laws.{field-plus, field_cut}
use Rattle.le.proofs.get64.Goals as goal

pub returns : goal.returns
returns c =
    let a = c.args in let b = a.b.now in
    let part = take (a.at + 8 - a.at) (drop a.at b) in
    omega (arith, field-plus 4 4 part 0, field_cut 8 b a.at, c.get32-2.ensures, c.get32.ensures)
