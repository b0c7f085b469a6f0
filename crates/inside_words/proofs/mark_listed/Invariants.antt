-- `mark_listed` meets its contract: the slices of v before slice i are marked.
use Prim.Native.Nat.{◌≤◌}
use Rattle.inside_words.specs.Inner.{Marking}
use Rattle.inside_words.proofs.mark_listed.Given as goal

abbrev pub invariant-loop-i : goal.invariant-loop-i
invariant-loop-i l =
    (l.many ≤ 62) × Marking l.table l.v l.i l.at l.word l.words
