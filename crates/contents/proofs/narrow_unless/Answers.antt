-- `narrow_unless` meets its contract: a site of b is not asked.
use mathlib.Core.Path.{sym, ◌∙◌}
use Rattle.sets.specs.Inner.Rows.{rules_of}
use Rattle.contents.proofs.ContentLaws.{fits-over, fits-asked}
use Rattle.contents.proofs.narrow_unless.Goals as goal

pub returns-else-not-has : goal.returns-else-not-has
returns-else-not-has c =
    let a = c.args in fits-over (rules_of a.table.now) a.b a.v (sym c.has.ensures ∙ c.if-not-has.false) c.requires.says

pub returns-then-not-has : goal.returns-then-not-has
returns-then-not-has c =
    let a = c.args in let p = c.requires in fits-asked (rules_of a.table.now) a.b a.v p.v_bound (sym c.has.ensures ∙ c.if-not-has.true) p.contents p.says c.narrow.ensures
