-- `near` meets its contract: the eights of words beside each other are joined one after the other.
use Rattle.spread_words.specs.Inner.{near_place}
use Rattle.spread_words.proofs.Joining.{joined-more, near-inside, near-alone}
use Rattle.spread_words.proofs.near.Goals as goal

pub loop-k-preserved : goal.loop-k-preserved
loop-k-preserved c =
    rw c.join.ensures (joined-more near_place near-inside near-alone c.loop-k.k c.loop-k-test.true c.loop-k.invariant)
