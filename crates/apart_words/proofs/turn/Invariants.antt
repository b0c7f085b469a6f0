-- `turn` meets its contract: the words below w are turned.
use Rattle.set_words.specs.Inner.{Written}
use Rattle.apart_words.specs.Inner.{turned_at}
use Rattle.apart_words.proofs.turn.Given as goal

abbrev pub invariant-loop-word : goal.invariant-loop-word
invariant-loop-word l =
    Written (turned_at l.x l.initial.words) l.initial.words l.word-index l.words
