-- `run_on` meets its contract: so many passes changed something, and the last one nothing.
use Prim.Native.Nat.{◌+◌, ◌-◌}
use mathlib.Core.Path.{◌≡◌}
use lib.ListN.{length}
use Rattle.rules.specs.Inner.{row_vote}
use Rattle.asking.specs.Inner.{Known}
use Rattle.sets.specs.Inner.Rows.{row_questions}
use Rattle.passes.specs.Inner.{Between}
use Rattle.passes.proofs.run_on.Given as goal

abbrev pub invariant-loop-round : goal.invariant-loop-round
invariant-loop-round l =
    Between (row_vote l.table l.n l.faulty) l.list l.passes l.state l.answers l.count l.waiting
    × (length l.state ≡ length l.initial.state) × (length l.answers ≡ length l.initial.answers) × (length l.waiting ≡ length l.initial.waiting) × Known (row_questions l.table l.n) l.known

abbrev pub decreases-loop-round : goal.decreases-loop-round
decreases-loop-round l =
    length l.initial.answers + 1 - l.passes
