-- `far` meets its contract: the eights of every eighth word are joined one after the other.
use Rattle.spread_words.specs.Inner.{Joined, far_place}
use Rattle.spread_words.proofs.far.Given as goal

abbrev pub invariant-loop-k : goal.invariant-loop-k
invariant-loop-k l =
    Joined far_place l.initial.words l.k l.words
