-- `goes_unmet` meets its contract: the root is met, or not.
use mathlib.Core.Path.{refl, sym, ◌∙◌}
use native.Mathlib.Omega.{arith}
use Rattle.one_round.proofs.goes_unmet.Goals as goal

pub returns-then-has_met : goal.returns-then-has_met
returns-then-has_met c =
    rw (sym c.has_met.ensures ∙ c.if-has_met.true) refl

pub single-requires : goal.single-requires
single-requires c =
    let p = c.requires in omega (arith, p.rows.few-sites, p.v_lt_n)

pub returns-else-has_met : goal.returns-else-has_met
returns-else-has_met c =
    rw (sym c.has_met.ensures ∙ c.if-has_met.false) c.single.ensures
