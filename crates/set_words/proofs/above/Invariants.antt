-- `above` meets its contract: the sets of the sites below x have their words.
use Prim.Native.Nat.{◌^◌}
use Rattle.set_words.specs.Inner.{Above}
use Rattle.set_words.proofs.above.Given as goal

abbrev pub invariant-loop-x : goal.invariant-loop-x
invariant-loop-x l =
    Above (2 ^ l.x) l.list
