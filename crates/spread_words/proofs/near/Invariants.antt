-- `near` meets its contract: the eights of words beside each other are joined one after the other.
use Rattle.spread_words.specs.Inner.{Joined, near_place}
use Rattle.spread_words.proofs.near.Given as goal

abbrev pub invariant-loop-k : goal.invariant-loop-k
invariant-loop-k l =
    Joined near_place l.initial.words l.k l.words
