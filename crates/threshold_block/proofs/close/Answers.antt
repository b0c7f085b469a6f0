-- `close` meets its contract: what is closed of the first d levels is what is closed of all.
use Prim.Native.Nat.{ℕ, ◌+◌, ◌-◌, ◌≤◌, ◌<◌}
use mathlib.Core.Path.{◌≡◌, sym, subst, ◌∙◌}
use native.Mathlib.Omega.{arith}
use borrow.Author.Rules.{rules}
use Rattle.threshold_block.proofs.Opened.{open_stays, open-closes, open_none}
use Rattle.threshold_block.proofs.close.Goals as goal

back : {k : ℕ} → 0 < k → k - 1 + 1 ≡ k
back l = omega arith

pub returns-then-levels-d-ne0 : goal.returns-then-levels-d-ne0
returns-then-levels-d-ne0 c =
    let a = c.args in let t = c.loop-d-test.true in (
      rw (back t) (open_stays a.levels.now (c.loop-d.d - 1) (omega (arith, t)) c.if-levels-d-ne0.true ∙ c.loop-d.invariant.1),
      subst (λ (x : ℕ). x ≤ a.depth) (sym (back t)) c.loop-d.invariant.0,
    )

pub loop-d-preserved : goal.loop-d-preserved
loop-d-preserved c =
    let a = c.args in let L = c.loop-d in (omega (arith, c.loop-d.invariant.0), open-closes a.levels.now (c.loop-d.d - 1) (omega (arith, c.loop-d-test.true)) c.if-levels-d-ne0.false ∙ c.loop-d.invariant.1)

pub returns : goal.returns
returns c =
    let a = c.args in let L = c.loop-d in (open_none a.levels.now (omega (arith, c.loop-d-test.false)) ∙ c.loop-d.invariant.1, search rules)
