-- Of a state, both sides together: what a site heard, and the sites that the masks name.
use Rattle.std.specs.Prelude.{ℕ, Bool, ◌&&◌, not, List, eqb}
use Rattle.std.specs.Int.Bits.{bit_or}
use Rattle.masks.specs.Mask.{has}
use Rattle.rules.specs.State.{votes, accepts, voted, accepted, confirmed, get}

-- the sites named by the six masks
unfoldable pub named_in : ℕ → List ℕ → ℕ
named_in n s =
    bit_or (bit_or (bit_or (get s (voted n 0)) (get s (voted n 1))) (bit_or (get s (accepted n 0)) (get s (accepted n 1))))
    (bit_or (get s (confirmed n 0)) (get s (confirmed n 1)))

-- what site v heard, votes and accepts of both sides
unfoldable pub heard_by : List ℕ → ℕ → ℕ
heard_by s v = bit_or (bit_or (get s (votes 0 v)) (get s (votes 1 v))) (bit_or (get s (accepts 0 v)) (get s (accepts 1 v)))

-- the site has heard nothing, and is not among those named
unfoldable pub silent_site : ℕ → List ℕ → ℕ → Bool
unfolding heard_by
silent_site named s v = eqb (heard_by s v) 0 && not (has named v)
