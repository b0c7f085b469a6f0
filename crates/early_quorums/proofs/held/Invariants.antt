-- `held` meets its contract: the members below v are asked.
use Rattle.sets.specs.Inner.Rows.{rules_of}
use Rattle.early_quorums.specs.Inner.{Held}
use Rattle.early_quorums.proofs.held.Given as goal

abbrev pub invariant-loop-v : goal.invariant-loop-v
invariant-loop-v l =
    Held (rules_of l.table) l.v l.sets
