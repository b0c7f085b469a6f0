-- `taken_along` meets its contract: all sites but the intact ones, and but the site itself, are counted.
use mathlib.Core.Path.{ap, ap₂, ◌∙◌}
use Rattle.masks.specs.Mask.{minus, size}
use Rattle.risk.specs.Risk.{taken_along}
use Rattle.verdicts.specs.Verdicts.{intact}
use Rattle.sets.specs.Inner.Rows.{rules_of}
use Rattle.risk_search.proofs.taken_along.Goals as goal

pub returns : goal.returns
unfolding taken_along
returns c =
    let a = c.args in let alone = c.single-alone.ensures in let spared = c.intact-intact.ensures ∙ ap (intact (rules_of a.table.now) a.n) c.single-alone.ensures in
    c.size.ensures ∙ ap size (c.minus.ensures ∙ ap₂ minus (c.minus-befouled.ensures ∙ ap₂ minus c.all_below.ensures spared) c.single-alone.ensures)
