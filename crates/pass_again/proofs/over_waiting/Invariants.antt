-- `over_waiting` meets its contract: after k turns the first k of the calls that wait are worked on again.
use mathlib.Core.Path.{◌≡◌}
use lib.ListN.{length}
use Rattle.pass_again.specs.Inner.{Amid}
use Rattle.rules.specs.Inner.{row_vote}
use Rattle.asking.specs.Inner.{Known}
use Rattle.sets.specs.Inner.Rows.{row_questions}
use Rattle.pass_again.proofs.over_waiting.Given as goal

abbrev pub invariant-loop-k : goal.invariant-loop-k
invariant-loop-k l =
    Amid (row_vote l.table l.n l.faulty) l.list l.initial.state l.initial.answers l.count l.k l.left l.changed l.state l.answers l.waiting × (length l.waiting ≡ length l.initial.waiting)
    × Known (row_questions l.table l.n) l.known
