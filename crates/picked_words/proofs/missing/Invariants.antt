-- `missing` meets its contract: the sites below x are asked.
use Rattle.picked_words.specs.Inner.{Missing}
use Rattle.picked_words.proofs.missing.Given as goal

abbrev pub invariant-loop-x : goal.invariant-loop-x
invariant-loop-x l =
    Missing l.m l.x l.word
