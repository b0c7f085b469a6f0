-- `lack` meets its contract: of the words below w those sets are left that have no site of m.
use Prim.Native.Nat.{ℕ}
use mathlib.Core.Bool.{Bool, ◌&&◌}
use mathlib.Core.List.{List}
use native.Mathlib.Nat.{le_refl}
use lib.Bits.{bit_and}
use lib.Dec.{eqb}
use Rattle.set_words.specs.Inner.{in_family}
use Rattle.set_words.proofs.WordLaws.{written-more}
use Rattle.picked_words.proofs.PickedLaws.{lacking-all}
use Rattle.picked_words.proofs.lack.Goals as goal

abbrev left : List ℕ → ℕ → ℕ → Bool
left old m s = in_family old s && eqb (bit_and s m) 0

pub loop-w-preserved : goal.loop-w-preserved
loop-w-preserved c =
    let a = c.args in let k = c.loop-w-test.true in
    written-more (left a.sets.now a.m) c.loop-w.w _ k
    (lacking-all a.m c.loop-w.w a.sets.now (c.loop-w.invariant.above c.loop-w.w (le_refl c.loop-w.w)) c.missing-low.ensures c.chosen.ensures) c.loop-w.invariant
