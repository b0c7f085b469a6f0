-- A vote that is heard in vain.
use Rattle.std.specs.Prelude.{ℕ, Bool, ◌&&◌, List, eqb}
use Rattle.std.specs.Int.Bits.{bit_or}
use Rattle.asking.specs.Inner.{hopeless}
use Rattle.masks.specs.Mask.{single}
use Rattle.rules.specs.State.{votes, accepts, get}
use Rattle.votes.specs.Call.{Call}

-- a vote, and with its sender all that the receiver heard of the side has it in no quorum, by what is known
unfoldable pub vain : List ℕ → Call → List ℕ → Bool
unfolding hopeless
vain known c s =
    eqb c.kind 1
    && hopeless known c.to (bit_or (bit_or (get s (votes c.side c.to)) (get s (accepts c.side c.to))) (single c.from))
