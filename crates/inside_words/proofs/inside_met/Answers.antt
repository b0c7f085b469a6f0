-- `inside_met` meets its contract: the words below w are asked.
use Prim.Native.Nat.{ℕ, ◌+◌, ◌*◌}
use mathlib.Core.Bool.{Bool, ◌&&◌}
use mathlib.Core.Path.{ap, ◌∙◌}
use borrow.Author.Tests.{lt-ltb}
use Rattle.masks.proofs.Laws.Gather.{has-gather}
use Rattle.masks.specs.Mask.{has}
use Rattle.set_words.proofs.WordLaws.{written-more}
use Rattle.sets.specs.Inner.Rows.{rules_of}
use Rattle.inside_words.proofs.inside_met.Goals as goal

pub loop-w-preserved : goal.loop-w-preserved
loop-w-preserved c =
    let a = c.args in let p = (rules_of a.table.now).inside a.v in
    written-more p c.loop-w.w _ c.loop-w-test.true
    (λ j h.
    ap (λ (x : ℕ). has x j) c.met_word.ensures ∙ has-gather 64 (λ k. p (c.loop-w.w * 64 + k)) j ∙ ap (λ (b : Bool). b && p (c.loop-w.w * 64 + j)) (lt-ltb j 64 h))
    c.loop-w.invariant
