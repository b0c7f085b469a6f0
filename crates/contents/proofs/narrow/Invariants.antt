-- `narrow` meets its contract: the words below w are narrowed.
use Prim.Native.Nat.{ℕ}
use mathlib.Core.Bool.{Bool, ◌&&◌}
use mathlib.Core.List.{List}
use Rattle.set_words.specs.Inner.{in_family, Written}
use Rattle.contents.specs.Inner.{content_at}
use Rattle.contents.proofs.narrow.Given as goal

abbrev left : List ℕ → List ℕ → ℕ → ℕ → Bool
left old kept v s = in_family old s && content_at kept v s

abbrev pub invariant-loop-w : goal.invariant-loop-w
invariant-loop-w l =
    Written (left l.initial.sets l.kept l.v) l.initial.sets l.w l.sets
