-- `largest` meets its contract: what is left has the answer of w, and the rounds so far and those left make all of them.
use Prim.Native.Nat.{◌+◌}
use mathlib.Core.Path.{◌≡◌}
use Rattle.one_round.specs.Inner.Places.{Places, SlicesHeld}
use Rattle.sets.specs.Quorum.{largest, rounds}
use Rattle.sets.specs.Inner.Rows.{rules_of}
use Rattle.rounds.proofs.largest.Given as goal

abbrev pub invariant-loop-set : goal.invariant-loop-set
invariant-loop-set l =
    Places l.table l.n l.set l.places × SlicesHeld l.table l.n l.set l.held × (largest (rules_of l.table).inside l.n l.set ≡ largest (rules_of l.table).inside l.n l.w)
    × (l.count + rounds (rules_of l.table).inside l.n l.set ≡ rounds (rules_of l.table).inside l.n l.w)

abbrev pub decreases-loop-set : goal.decreases-loop-set
decreases-loop-set l =
    l.set
