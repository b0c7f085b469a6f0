-- `check_set` meets its contract: each site of the set is below n, or one is not.
use mathlib.Core.Path.{sym, ap, ◌∙◌}
use Rattle.masks.specs.Mask.{within}
use Rattle.sets.proofs.Groups.{no-outsider, some-outsider}
use Rattle.sets.proofs.check_set.Goals as goal

pub returns-then-within : goal.returns-then-within
returns-then-within c =
    let a = c.args in sym (no-outsider a.n a.set (ap (within a.set) (sym c.all_below.ensures) ∙ sym c.within.ensures ∙ c.if-within.true))

pub returns : goal.returns
returns c =
    let a = c.args in sym (some-outsider a.n a.set (ap (within a.set) (sym c.all_below.ensures) ∙ sym c.within.ensures ∙ c.if-within.false))
