-- `is_unfilled` meets its contract: one of the bytes before the index is not zero just if their sum is not.
use Prim.Native.Nat.{ℕ, ◌+◌, ◌-◌, ◌*◌, ◌<◌}
use mathlib.Core.Bool.{Bool, ◌||◌, not}
use mathlib.Core.Path.{sym, ap, ap₂, ◌∙◌}
use native.Mathlib.Omega.{arith}
use lib.Dec.{eqb}
use borrow.Author.Rules.{rules}
use lib.ListN.{get_or, take, drop, length-take, length-drop}
use Rattle.ground.proofs.Some.{some-none, some-suc}
use Rattle.ground.specs.Search.{some}
use Rattle.journal_block.specs.Block.{calls_unfilled}
use Rattle.journal_block.proofs.Block.{some-part, some-rest}
use Rattle.journal_block.proofs.is_unfilled.Goals as goal

pub loop-x-init : goal.loop-x-init
loop-x-init c =
    (omega arith, sym (some-none _))

pub overflow_add-sum : goal.overflow_add-sum
overflow_add-sum c =
    let h : c.from-sum.result < 256 = search rules in omega (arith, h, length-take {A = ℕ})

pub loop-x-preserved : goal.loop-x-preserved
loop-x-preserved c =
    let i = c.loop-x.x-index in let from = 4 + 4 * c.calls_in.result in
    let used : ℕ → Bool = λ j. not (eqb (get_or (take (504 - from) (drop from c.args.b.now)) j 0) 0) in (
      (let h : c.from-sum.result < 256 = search rules in omega (arith, h)),
      some-part c.loop-x.sum c.from-sum.result
          ∙ ap₂ ◌||◌ c.loop-x.invariant.1 (ap (λ (x : ℕ). not (eqb x 0)) c.from-sum.ensures)
          ∙ sym (some-suc i used),
    )

pub returns : goal.returns
unfolding calls_unfilled
returns c =
    let b = c.args.b.now in let from = 4 + 4 * c.calls_in.result in
    c.loop-x.invariant.1
    ∙ some-rest from b c.loop-x.x-index (omega (arith, length-take {A = ℕ}, length-drop {A = ℕ}))
    ∙ ap (λ (m : ℕ). some (504 - (4 + 4 * m)) (λ j. not (eqb (get_or b (4 + 4 * m + j) 0) 0))) c.calls_in.ensures
