-- Four numbers of two bytes, one behind the other.
use mathlib.Core.Path.{ap, ◌∙◌}
use mathlib.Core.List.{List}
use Prim.Native.Nat.{ℕ}
use lib.Seq.{sets}
use Rattle.le.specs.Le.{digits}
use Rattle.site_write.proofs.Store.{head_puts}
use Rattle.threshold_write.proofs.put_head.Goals as goal

pub returns : goal.returns
returns c =
    let a = c.args in c.put16-4.ensures
    ∙ ap (λ (x : List ℕ). sets x 6 (digits 2 0))
    (c.put16-3.ensures ∙ ap (λ (x : List ℕ). sets x 4 (digits 2 a.many))
    (c.put16-2.ensures
    ∙ ap (λ (x : List ℕ). sets x 2 (digits 2 a.n)) c.put16.ensures))
    ∙ head_puts a.b.now a.i a.n a.many c.requires
