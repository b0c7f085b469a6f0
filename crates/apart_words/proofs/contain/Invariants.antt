-- `contain` meets its contract: of the words below w those sets are left that contain b.
use mathlib.Core.Bool.{Bool, ◌&&◌}
use mathlib.Core.List.{List}
use Prim.Native.Nat.{ℕ}
use Rattle.set_words.specs.Inner.{in_family, Written}
use Rattle.masks.specs.Mask.{within}
use Rattle.apart_words.proofs.contain.Given as goal

abbrev left : List ℕ → ℕ → ℕ → Bool
left old b s = in_family old s && within b s

abbrev pub invariant-loop-w : goal.invariant-loop-w
invariant-loop-w l =
    Written (left l.initial.sets l.b) l.initial.sets l.w l.sets
