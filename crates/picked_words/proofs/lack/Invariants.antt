-- `lack` meets its contract: of the words below w those sets are left that have no site of m.
use Prim.Native.Nat.{ℕ}
use mathlib.Core.Bool.{Bool, ◌&&◌}
use mathlib.Core.List.{List}
use lib.Bits.{bit_and}
use lib.Dec.{eqb}
use Rattle.set_words.specs.Inner.{in_family, Written}
use Rattle.picked_words.proofs.lack.Given as goal

abbrev left : List ℕ → ℕ → ℕ → Bool
left old m s = in_family old s && eqb (bit_and s m) 0

abbrev pub invariant-loop-w : goal.invariant-loop-w
invariant-loop-w l =
    Written (left l.initial.sets l.m) l.initial.sets l.w l.sets
