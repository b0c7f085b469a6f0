-- `turn_all` meets its contract: the sites below x are turned.
use Rattle.apart_words.specs.Inner.{Turned}
use Rattle.apart_words.proofs.turn_all.Given as goal

abbrev pub invariant-loop-x : goal.invariant-loop-x
invariant-loop-x l =
    Turned l.b l.x l.initial.words l.words
