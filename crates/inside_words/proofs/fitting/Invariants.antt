-- `fitting` meets its contract: the members below v are asked.
use Rattle.set_words.specs.Inner.{Says}
use Rattle.sets.specs.Inner.Rows.{rules_of}
use Rattle.inside_words.specs.Inner.{fits}
use Rattle.inside_words.proofs.fitting.Given as goal

abbrev pub invariant-loop-v : goal.invariant-loop-v
invariant-loop-v l =
    Says (fits (rules_of l.table) 0 l.v) l.sets
