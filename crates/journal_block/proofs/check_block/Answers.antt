-- `check_block` meets its contract: one law for each way out.
use Prim.Native.Nat.{ℕ, suc, ◌+◌}
use mathlib.Core.Path.{◌≡◌, refl, sym, ◌∙◌}
use native.Mathlib.Numerals.{add-one}
use lib.Dec.{eqb}
use Rattle.block.proofs.Laws.{says-sealed, says-unsealed}
use Rattle.journal_block.specs.Block.{miscounted}
use Rattle.journal_block.proofs.Block.{wrong-sums, wrong-number, wrong-count, wrong-filler, all_right}
use Rattle.journal_block.proofs.check_block.Goals as goal

told : (k i n m : ℕ) → n ≡ m → miscounted (eqb (i + 1) k) n ≡ miscounted (eqb (suc i) k) m
told k i n m e = rw (e, add-one i) refl

pub returns-then-check-ne0 : goal.returns-then-check-ne0
returns-then-check-ne0 c =
    sym (wrong-sums c.args.k c.args.i c.args.b.now (says-unsealed _ c.requires.b_len (λ e. c.if-check-ne0.true (c.check.ensures ∙ e))))

pub returns-then-from-i : goal.returns-then-from-i
returns-then-from-i c =
    let a = c.args in sym (wrong-number a.k a.i a.b.now (says-sealed _ (sym c.check.ensures ∙ c.if-check-ne0.false)) (λ e. c.if-from-i.true (c.from.ensures ∙ c.get16.ensures ∙ e)))

pub returns-then-is_miscounted : goal.returns-then-is_miscounted
returns-then-is_miscounted c =
    let m = c.is_miscounted in let n = c.calls_in in let a = c.args in sym (wrong-count a.k a.i a.b.now (says-sealed _ (sym c.check.ensures ∙ c.if-check-ne0.false))
    (sym (told a.k a.i _ _ c.calls_in.ensures) ∙ sym c.is_miscounted.ensures ∙ c.if-is_miscounted.true))

pub returns-then-is_unfilled : goal.returns-then-is_unfilled
returns-then-is_unfilled c =
    let u = c.is_unfilled in let m = c.is_miscounted in let n = c.calls_in in let a = c.args in sym (wrong-filler a.k a.i a.b.now (says-sealed _ (sym c.check.ensures ∙ c.if-check-ne0.false))
    (sym c.get16.ensures ∙ sym c.from.ensures ∙ c.if-from-i.false)
    (sym (told a.k a.i _ _ c.calls_in.ensures) ∙ sym c.is_miscounted.ensures ∙ c.if-is_miscounted.false)
    (sym c.is_unfilled.ensures ∙ c.if-is_unfilled.true))

pub returns : goal.returns
returns c =
    let u = c.is_unfilled in let m = c.is_miscounted in let n = c.calls_in in let a = c.args in sym (all_right a.k a.i a.b.now (says-sealed _ (sym c.check.ensures ∙ c.if-check-ne0.false))
    (sym c.get16.ensures ∙ sym c.from.ensures ∙ c.if-from-i.false)
    (sym (told a.k a.i _ _ c.calls_in.ensures) ∙ sym c.is_miscounted.ensures ∙ c.if-is_miscounted.false)
    (sym c.is_unfilled.ensures ∙ c.if-is_unfilled.false))
