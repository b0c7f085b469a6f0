-- `is_miscounted` meets its contract: the definition, case by case.
use mathlib.Core.Path.{refl, sym}
use Rattle.journal_block.proofs.Block.{last_some}
use Rattle.journal_block.proofs.is_miscounted.Goals as goal

pub returns-then-calls-eq0 : goal.returns-then-calls-eq0
returns-then-calls-eq0 c =
    rw (c.if-last.true, c.if-calls-eq0.true) refl

pub returns-else-calls-eq0 : goal.returns-else-calls-eq0
returns-else-calls-eq0 c =
    rw c.if-last.true (sym (last_some c.args.calls c.if-calls-eq0.false))

pub returns-else-last : goal.returns-else-last
returns-else-last c =
    rw c.if-last.false refl
