-- `largest_set` meets its contract: what is left has the largest quorum of w, and a sweep that drops nobody leaves just that.
use mathlib.Core.Path.{◌≡◌}
use Rattle.one_round.specs.Inner.Places.{Places}
use Rattle.sets.specs.Quorum.{largest}
use Rattle.sets.specs.Inner.Rows.{rules_of}
use Rattle.rounds.proofs.largest_set.Given as goal

abbrev pub invariant-loop-set : goal.invariant-loop-set
invariant-loop-set l =
    Places l.table l.n l.set l.places × (largest (rules_of l.table).inside l.n l.set ≡ largest (rules_of l.table).inside l.n l.w)

abbrev pub decreases-loop-set : goal.decreases-loop-set
decreases-loop-set l =
    l.set
