-- `first_ruin` meets its contract: the best of the sets so far, from all sites on.
use Rattle.risk.specs.Inner.{Best}
use Rattle.sets.specs.Inner.Rows.{rules_of}
use Rattle.risk_search.proofs.first_ruin.Given as goal

abbrev pub invariant-loop-f : goal.invariant-loop-f
invariant-loop-f l =
    Best (rules_of l.table) l.n l.f l.best
