-- `has_met` meets its contract: who is not in u has no slice inside, and who is has one if the root is met.
use mathlib.Core.Bool.{Bool, ◌&&◌}
use mathlib.Core.Path.{sym, ap, ◌∙◌}
use native.Mathlib.Omega.{arith}
use Rattle.sets.proofs.Rows.{sets-inside}
use Rattle.table.specs.Table.{site_of}
use Rattle.threshold_row.specs.Inner.Row.{sets_of}
use Rattle.threshold_sets.specs.Met.{root_met}
use Rattle.sets.proofs.has_met.Goals as goal

pub has-requires : goal.has-requires
has-requires c =
    let p = c.requires in omega (arith, p.rows.few-sites, p.v_lt_n)

pub returns-then-not-has : goal.returns-then-not-has
returns-then-not-has c =
    let a = c.args in let m = root_met (sets_of (site_of a.table.now a.v)) a.u in
    sym (sets-inside a.table.now a.v c.requires.v_value a.u ∙ ap (λ (b : Bool). b && m) (sym c.has.ensures ∙ c.if-not-has.true))

pub returns : goal.returns
returns c =
    let a = c.args in let m = root_met (sets_of (site_of a.table.now a.v)) a.u in
    c.is_met.ensures ∙ sym (sets-inside a.table.now a.v c.requires.v_value a.u ∙ ap (λ (b : Bool). b && m) (sym c.has.ensures ∙ c.if-not-has.false))
