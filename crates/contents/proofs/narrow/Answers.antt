-- `narrow` meets its contract: the words below w are narrowed.
use Prim.Native.Nat.{ℕ}
use mathlib.Core.Bool.{Bool, ◌&&◌}
use mathlib.Core.List.{List}
use native.Mathlib.Nat.{le_refl}
use Rattle.set_words.specs.Inner.{in_family}
use Rattle.set_words.proofs.WordLaws.{written-more}
use Rattle.contents.specs.Inner.{content_at}
use Rattle.contents.proofs.ContentLaws.{asked}
use Rattle.contents.proofs.narrow.Goals as goal

abbrev left : List ℕ → List ℕ → ℕ → ℕ → Bool
left old kept v s = in_family old s && content_at kept v s

pub loop-w-preserved : goal.loop-w-preserved
loop-w-preserved c =
    let a = c.args in let k = c.loop-w-test.true in
    written-more (left a.sets.now a.kept.now a.v) c.loop-w.w _ k (asked a.sets.now a.kept.now a.v c.loop-w.w (c.loop-w.invariant.above c.loop-w.w (le_refl c.loop-w.w))) c.loop-w.invariant
