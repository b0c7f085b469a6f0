-- `first_ruin` meets its contract: the best of the sets so far, from all sites on.
use Prim.Native.Nat.{ℕ, ◌+◌, ◌≤◌, ◌<◌}
use mathlib.Core.Path.{sym, ◌∙◌, subst}
use Rattle.risk.specs.Inner.{Best}
use Rattle.risk.proofs.RiskLaws.{best_none, best-taken, best-passed, best-end}
use Rattle.sets.specs.Inner.Rows.{rules_of}
use Rattle.risk_search.proofs.first_ruin.Goals as goal
use Rattle.risk_search.proofs.first_ruin.Goals.{then-is_better, else-is_better}

pub loop-f-init : goal.loop-f-init
loop-f-init c =
    let a = c.args in subst (λ (x : ℕ). Best (rules_of a.table.now) a.n 0 x) (sym c.all_below-best.ensures) (best_none (rules_of a.table.now) a.n)

pub loop-f-preserved : goal.loop-f-preserved
loop-f-preserved c =
    let a = c.args in let r = rules_of a.table.now in
    elim c.if-is_better.branch [
      | then-is_better w ↦
          subst (λ (x : ℕ). Best r a.n (c.loop-f.f + 1) x) (sym w.best-is)
          (best-taken r a.n (subst (λ (k : ℕ). c.loop-f.f < k) c.single-end.ensures c.loop-f-test.true)
          (sym c.is_better.ensures ∙ w.if-is_better.true) c.loop-f.invariant)
      | else-is_better w ↦
          subst (λ (x : ℕ). Best r a.n (c.loop-f.f + 1) x) (sym w.best-is) (best-passed r a.n (sym c.is_better.ensures ∙ w.if-is_better.false) c.loop-f.invariant)
    ]

pub returns : goal.returns
returns c =
    let a = c.args in best-end (rules_of a.table.now) a.n (subst (λ (k : ℕ). k ≤ c.loop-f.f) c.single-end.ensures c.loop-f-test.false) c.loop-f.invariant
