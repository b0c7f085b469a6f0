-- `above_with` meets its contract: the words below half + i are known.
use Prim.Native.Nat.{◌+◌, ◌≤◌}
use Rattle.set_words.specs.Inner.{Above}
use Rattle.set_words.proofs.above_with.Given as goal

abbrev pub invariant-loop-i : goal.invariant-loop-i
invariant-loop-i l =
    (l.half ≤ 32) × Above (l.half + l.i) l.list
