-- `narrow` meets its contract: the words below w are narrowed.
use Prim.Native.Nat.{ℕ}
use mathlib.Core.Bool.{Bool, ◌&&◌, ◌||◌, not}
use mathlib.Core.List.{List}
use Rattle.masks.specs.Mask.{has}
use Rattle.set_words.specs.Inner.{in_family, Written}
use Rattle.inside_words.proofs.narrow.Given as goal

abbrev kept : List ℕ → List ℕ → ℕ → ℕ → Bool
kept old words v s = in_family old s && (not (has s v) || in_family words s)

abbrev pub invariant-loop-w : goal.invariant-loop-w
invariant-loop-w l =
    Written (kept l.initial.sets l.words l.v) l.initial.sets l.w l.sets
