-- `in_largest` meets its contract: v is in what is left, which has the largest quorum of w; a sweep that drops v, or nobody, settles it.
use mathlib.Core.Bool.{true}
use mathlib.Core.Path.{◌≡◌}
use Rattle.masks.specs.Mask.{has}
use Rattle.one_round.specs.Inner.Places.{Places}
use Rattle.sets.specs.Quorum.{largest}
use Rattle.sets.specs.Inner.Rows.{rules_of}
use Rattle.rounds.proofs.in_largest.Given as goal

abbrev pub invariant-loop-set : goal.invariant-loop-set
invariant-loop-set l =
    Places l.table l.n l.set l.places × (largest (rules_of l.table).inside l.n l.set ≡ largest (rules_of l.table).inside l.n l.w) × (has l.set l.v ≡ true)

abbrev pub decreases-loop-set : goal.decreases-loop-set
decreases-loop-set l =
    l.set
