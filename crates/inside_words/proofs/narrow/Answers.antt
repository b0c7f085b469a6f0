-- `narrow` meets its contract: the words below w are narrowed.
use Prim.Native.Nat.{ℕ}
use mathlib.Core.Bool.{Bool, ◌&&◌, ◌||◌, not}
use mathlib.Core.List.{List}
use native.Mathlib.Nat.{le_refl}
use Rattle.masks.specs.Mask.{has}
use Rattle.set_words.specs.Inner.{in_family}
use Rattle.set_words.proofs.WordLaws.{written-more}
use Rattle.inside_words.proofs.InsideLaws.{narrowed}
use Rattle.inside_words.proofs.narrow.Goals as goal

abbrev kept : List ℕ → List ℕ → ℕ → ℕ → Bool
kept old words v s = in_family old s && (not (has s v) || in_family words s)

pub loop-w-preserved : goal.loop-w-preserved
loop-w-preserved c =
    let a = c.args in let k = c.loop-w-test.true in
    written-more (kept a.sets.now a.words.now a.v) c.loop-w.w _ k
    (narrowed a.sets.now a.words.now a.v c.loop-w.w (c.loop-w.invariant.above c.loop-w.w (le_refl c.loop-w.w)) c.lacking.ensures) c.loop-w.invariant
