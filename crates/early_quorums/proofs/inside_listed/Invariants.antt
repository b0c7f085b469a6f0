-- `inside_listed` meets its contract: the sites below x are handed on.
use Rattle.early_quorums.specs.Inner.{Sets}
use Rattle.early_quorums.proofs.inside_listed.Given as goal

abbrev pub invariant-loop-x : goal.invariant-loop-x
invariant-loop-x l =
    Sets l.table l.v l.x l.sets
