-- `fill` meets its contract: the sites below v are kept.
use Rattle.sets.specs.Inner.Rows.{rules_of}
use Rattle.contents.specs.Inner.{Contents}
use Rattle.contents.proofs.fill.Given as goal

abbrev pub invariant-loop-v : goal.invariant-loop-v
invariant-loop-v l =
    Contents (rules_of l.table) l.b l.v l.kept
