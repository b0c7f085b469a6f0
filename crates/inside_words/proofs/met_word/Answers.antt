-- `met_word` meets its contract: the sets before j are asked.
use Prim.Native.Nat.{ℕ, ◌+◌, ◌*◌, ◌^◌}
use mathlib.Core.Bool.{Bool}
use mathlib.Core.Path.{refl, sym, ap, ◌∙◌}
use native.Mathlib.Numerals.{add-one}
use lib.Bits.{bit_or}
use Rattle.masks.proofs.Laws.Gather.{gather-in, gather-out}
use Rattle.masks.specs.Mask.{gather}
use Rattle.sets.specs.Inner.Rows.{rules_of}
use Rattle.inside_words.proofs.met_word.Goals as goal
use Rattle.inside_words.proofs.met_word.Goals.{then-has_met, else-has_met}

pub loop-j-init : goal.loop-j-init
unfolding gather
loop-j-init c =
    refl

pub loop-j-preserved : goal.loop-j-preserved
loop-j-preserved c =
    let a = c.args in let p : ℕ → Bool = λ k. (rules_of a.table.now).inside a.v (a.w * 64 + k) in
    elim c.if-has_met.branch [
      | then-has_met w ↦ w.word-is ∙ ap (bit_or c.loop-j.word) w.single-word.ensures ∙ ap (λ (m : ℕ). bit_or m (2 ^ c.loop-j.j)) c.loop-j.invariant ∙ sym
          (gather-in c.loop-j.j p (sym c.has_met.ensures ∙ w.if-has_met.true)) ∙ ap (λ (k : ℕ). gather k p) (sym (add-one c.loop-j.j))
      | else-has_met w ↦ w.word-is ∙ c.loop-j.invariant ∙ sym (gather-out c.loop-j.j p (sym c.has_met.ensures ∙ w.if-has_met.false)) ∙ ap (λ (k : ℕ). gather k p) (sym (add-one c.loop-j.j))
    ]
