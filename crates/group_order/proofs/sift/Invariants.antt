-- `sift` meets its contract: one law for each way out.
use Rattle.group_order.proofs.Laws.{Sifting}
use Rattle.group_order.proofs.sift.Given as goal

abbrev pub invariant-loop-k : goal.invariant-loop-k
invariant-loop-k l =
    Sifting l.initial.m l.q l.many l.m l.c l.k
