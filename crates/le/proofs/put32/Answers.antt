-- `put32` meets its contract: the low half written, then the high half, is the number written.
use Prim.Native.Nat.{ℕ, ◌+◌, ◌/◌}
use mathlib.Core.List.{List}
use mathlib.Core.Path.{ap, ◌∙◌}
use lib.Seq.{sets}
use Rattle.le.specs.Le.{digits}
use Rattle.le.proofs.Laws.{sets-plus}
use Rattle.le.proofs.put32.Goals as goal

pub returns : goal.returns
returns c =
    let a = c.args in c.put16-2.ensures
    ∙ ap (λ (l : List ℕ). sets l (a.at + 2) (digits 2 (a.v / 65536))) c.put16.ensures
    ∙ sets-plus 2 2 a.b.now a.at a.v
