-- Six zeros.
use mathlib.Core.Path.{ap, ◌∙◌}
use mathlib.Core.List.{List}
use Prim.Native.Nat.{ℕ}
use lib.Seq.{sets}
use Rattle.le.specs.Le.{digits}
use Rattle.threshold_write.proofs.Store.{zeros-put}
use Rattle.threshold_write.proofs.put_zeros.Goals as goal

pub returns : goal.returns
returns c =
    let a = c.args in c.put32.ensures
    ∙ ap (λ (x : List ℕ). sets x 500 (digits 4 0)) c.put16.ensures
    ∙ zeros-put a.b.now c.requires
