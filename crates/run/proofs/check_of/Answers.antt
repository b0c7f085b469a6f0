-- `check_of` meets its contract: one law for each way out.
use Prim.Native.Nat.{ℕ, ◌≤◌, ◌<◌}
use mathlib.Core.Path.{sym, subst, ◌∙◌}
use native.Mathlib.Omega.{arith}
use Rattle.refusals.proofs.Passed.{passed_on}
use Rattle.run.proofs.RunWays.{set-refused, cut-refused, long-refused, state-refused, answers-refused, none-refused}
use Rattle.run.proofs.check_of.Goals as goal

pub returns-in_err-check_set : goal.returns-in_err-check_set
returns-in_err-check_set c =
    let a = c.args in passed_on c.from_residual.result c.from_residual.ensures.1 ∙ (set-refused a.n a.faulty a.bytes a.state a.answers _ (sym c.check_set.ensures ∙ c.in_err-check_set.was))

pub returns-then-bytes-ne0 : goal.returns-then-bytes-ne0
returns-then-bytes-ne0 c =
    let a = c.args in cut-refused a.n a.faulty a.bytes a.state a.answers (sym c.check_set.ensures ∙ c.in_ok-check_set.was) c.if-bytes-ne0.true

pub returns-then-bytes-gt16384 : goal.returns-then-bytes-gt16384
returns-then-bytes-gt16384 c =
    let a = c.args in long-refused a.n a.faulty a.bytes a.state a.answers (sym c.check_set.ensures ∙ c.in_ok-check_set.was) c.if-bytes-ne0.false c.if-bytes-gt16384.true

pub width-requires : goal.width-requires
width-requires c =
    omega (arith, c.requires)

pub returns-then-state-width : goal.returns-then-state-width
returns-then-state-width c =
    let a = c.args in state-refused a.n a.faulty a.bytes a.state a.answers (sym c.check_set.ensures ∙ c.in_ok-check_set.was) c.if-bytes-ne0.false
    c.if-bytes-gt16384.false (subst (λ (k : ℕ). a.state < k) c.width.ensures c.if-state-width.true)

pub returns-then-answers-bytes : goal.returns-then-answers-bytes
returns-then-answers-bytes c =
    let a = c.args in let w = c.width.ensures in answers-refused a.n a.faulty a.bytes a.state a.answers (sym c.check_set.ensures ∙ c.in_ok-check_set.was) c.if-bytes-ne0.false
    c.if-bytes-gt16384.false (subst (λ (k : ℕ). k ≤ a.state) c.width.ensures c.if-state-width.false) c.if-answers-bytes.true

pub returns : goal.returns
returns c =
    let a = c.args in let w = c.width.ensures in none-refused a.n a.faulty a.bytes a.state a.answers (sym c.check_set.ensures ∙ c.in_ok-check_set.was) c.if-bytes-ne0.false
    c.if-bytes-gt16384.false (subst (λ (k : ℕ). k ≤ a.state) c.width.ensures c.if-state-width.false) c.if-answers-bytes.false
