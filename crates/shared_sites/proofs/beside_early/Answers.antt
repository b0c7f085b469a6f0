-- `beside_early` meets its contract: 64 stands for no set.
use mathlib.Core.Bool.{Bool, cond}
use mathlib.Core.Path.{sym, ap, ◌∙◌}
use borrow.Author.Tests.{eq-eqb, ne_eqb}
use Rattle.verdicts.specs.Verdicts.{beside}
use Rattle.sets.specs.Inner.Rows.{rules_of}
use Rattle.shared_sites.proofs.beside_early.Goals as goal

pub returns-then-p-eq64 : goal.returns-then-p-eq64
returns-then-p-eq64 c =
    let a = c.args in sym (ap (λ (b : Bool). cond b 0 (beside (rules_of a.table.now).inside a.n a.p)) (eq-eqb a.p 64 c.if-p-eq64.true))

pub returns : goal.returns
returns c =
    let a = c.args in c.beside.ensures ∙ sym (ap (λ (b : Bool). cond b 0 (beside (rules_of a.table.now).inside a.n a.p)) (ne_eqb a.p 64 c.if-p-eq64.false))
