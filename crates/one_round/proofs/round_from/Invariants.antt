-- `round_from` meets its contract: who is asked stays if it has a slice inside w, and goes if not.
use lib.Bits.{bit_and}
use Rattle.masks.specs.Mask.{all_below}
use Rattle.one_round.specs.Inner.Places.{Places, SlicesHeld}
use Rattle.one_round.proofs.Rounds.{SomeAsked}
use Rattle.sets.specs.Quorum.{round}
use Rattle.sets.specs.Inner.Rows.{rules_of}
use Rattle.one_round.proofs.round_from.Given as goal

abbrev pub invariant-loop-rest : goal.invariant-loop-rest
invariant-loop-rest l =
    SomeAsked (bit_and l.w (all_below l.n)) (round (rules_of l.table).inside l.n l.w) (round (rules_of l.table).inside l.n l.w) l.rest l.stay × Places l.table l.n l.w l.places × SlicesHeld l.table l.n l.w l.held

abbrev pub decreases-loop-rest : goal.decreases-loop-rest
decreases-loop-rest l =
    l.rest
