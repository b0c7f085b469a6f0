-- `turn` meets its contract: the words below w are turned.
use Prim.Native.Nat.{ℕ}
use mathlib.Core.Path.{◌≡◌, subst}
use native.Mathlib.Nat.{le_refl}
use native.Mathlib.Omega.{arith}
use Rattle.set_words.specs.Inner.{Written}
use Rattle.set_words.proofs.WordLaws.{written_none, written-more, written_all}
use Rattle.apart_words.specs.Inner.{turned_at}
use Rattle.apart_words.proofs.Turning.{turn-said}
use Rattle.apart_words.proofs.turn.Goals as goal

pub loop-word-init : goal.loop-word-init
loop-word-init c =
    let a = c.args in written_none (turned_at a.x a.words.now) a.words.now c.requires.words_len

pub loop-word-preserved : goal.loop-word-preserved
loop-word-preserved c =
    let a = c.args in
    written-more (turned_at a.x a.words.now) c.loop-word.word-index _ (omega arith)
    (λ j lj. turn-said a.x c.loop-word.word-index c.requires.x_bound lj a.words.now (c.loop-word.invariant.above c.loop-word.word-index (le_refl c.loop-word.word-index)) c.turn_word.ensures) c.loop-word.invariant

pub returns : goal.returns
returns c =
    let a = c.args in let e : c.loop-word.word-index ≡ 64 = omega arith in
    written_all (turned_at a.x a.words.now) (subst (λ (k : ℕ). Written (turned_at a.x a.words.now) a.words.now k c.loop-word.words) e c.loop-word.invariant)
