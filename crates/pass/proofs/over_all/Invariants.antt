-- `over_all` meets its contract: after i calls the loop has the first i calls of the pass behind it.
use Rattle.pass.specs.Inner.{After}
use Rattle.rules.specs.Inner.{row_vote}
use Rattle.asking.specs.Inner.{Known}
use Rattle.sets.specs.Inner.Rows.{row_questions}
use Rattle.pass.proofs.over_all.Given as goal

abbrev pub invariant-loop-i : goal.invariant-loop-i
invariant-loop-i l =
    After (row_vote l.table l.n l.faulty) l.list l.initial.state l.initial.answers l.i l.changed l.state l.answers × Known (row_questions l.table l.n) l.known
