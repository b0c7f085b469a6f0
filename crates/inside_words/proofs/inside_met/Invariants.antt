-- `inside_met` meets its contract: the words below w are asked.
use Rattle.set_words.specs.Inner.{Written}
use Rattle.sets.specs.Inner.Rows.{rules_of}
use Rattle.inside_words.proofs.inside_met.Given as goal

abbrev pub invariant-loop-w : goal.invariant-loop-w
invariant-loop-w l =
    Written ((rules_of l.table).inside l.v) l.initial.words l.w l.words
