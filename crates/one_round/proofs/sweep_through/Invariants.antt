-- `sweep_through` meets its contract: who is asked stays if it has a slice inside what is left; else it is in no quorum inside w, and goes.
use lib.Bits.{bit_and}
use Rattle.masks.specs.Mask.{all_below}
use Rattle.one_round.specs.Inner.Places.{Places}
use Rattle.one_round.proofs.Rounds.{SomeAsked}
use Rattle.sets.specs.Quorum.{round, largest}
use Rattle.sets.specs.Inner.Rows.{rules_of}
use Rattle.one_round.proofs.sweep_through.Given as goal

abbrev pub invariant-loop-rest : goal.invariant-loop-rest
invariant-loop-rest l =
    SomeAsked (bit_and l.w (all_below l.n)) (largest (rules_of l.table).inside l.n l.w) (round (rules_of l.table).inside l.n l.w) l.rest l.left × Places l.table l.n l.left l.places

abbrev pub decreases-loop-rest : goal.decreases-loop-rest
decreases-loop-rest l =
    l.rest
