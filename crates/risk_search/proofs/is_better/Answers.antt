-- `is_better` meets its contract: a set that has no fewer members is not better, any other is if nobody is intact.
use Prim.Native.Nat.{ℕ, ◌≤◌, ◌<◌}
use mathlib.Core.Bool.{Bool, ◌&&◌}
use mathlib.Core.Path.{sym, ap, ◌∙◌}
use native.Mathlib.Omega.{arith}
use lib.Dec.{eqb}
use borrow.Author.Tests.{lt-ltb, le-ltb}
use Rattle.masks.specs.Mask.{size}
use Rattle.risk.specs.Risk.{ruinous}
use Rattle.sets.specs.Inner.Rows.{rules_of}
use Rattle.risk_search.proofs.is_better.Goals as goal

pub returns-then-size : goal.returns-then-size
unfolding ruinous
returns-then-size c =
    let a = c.args in let h : size a.f < size a.best = omega (arith, c.size-2.ensures, c.size.ensures) in
    ap (λ (x : ℕ). eqb x 0) c.intact.ensures
    ∙ sym (ap (λ (b : Bool). b && ruinous (rules_of a.table.now) a.n a.f) (lt-ltb (size a.f) (size a.best) h))

pub returns-else-size : goal.returns-else-size
returns-else-size c =
    let a = c.args in let h : size a.best ≤ size a.f = omega (arith, c.size-2.ensures, c.size.ensures) in
    le-ltb c.size.result c.size-2.result c.if-size.false ∙ sym (ap (λ (b : Bool). b && ruinous (rules_of a.table.now) a.n a.f) (le-ltb (size a.f) (size a.best) h))
