-- One test after the other.
use mathlib.Core.Path.{sym, ◌∙◌}
use Rattle.table_reading.proofs.Ways.{group-63, no-owner, group-twice, group-new}
use Rattle.table_reading.proofs.group_check.Goals as goal

pub returns-then-m-gt61 : goal.returns-then-m-gt61
returns-then-m-gt61 c =
    sym (group-63 _ _ _ c.if-m-gt61.true)

pub returns-then-not-has : goal.returns-then-not-has
returns-then-not-has c =
    sym (no-owner _ _ _ c.if-m-gt61.false (sym c.has.ensures ∙ c.if-not-has.true))

pub returns-then-known : goal.returns-then-known
returns-then-known c =
    sym
    (group-twice _ _ _ c.if-m-gt61.false (sym c.has.ensures ∙ c.if-not-has.false)
    (sym c.known.ensures ∙ c.if-known.true))

pub returns : goal.returns
returns c =
    sym
    (group-new _ _ _ c.if-m-gt61.false (sym c.has.ensures ∙ c.if-not-has.false)
    (sym c.known.ensures ∙ c.if-known.false))
