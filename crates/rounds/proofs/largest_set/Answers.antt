-- `largest_set` meets its contract: what is left has the largest quorum of w, and a sweep that drops nobody leaves just that.
use Prim.Native.Nat.{ℕ}
use mathlib.Core.Path.{refl, sym, ap, ◌∙◌, subst}
use Rattle.one_round.specs.Inner.Swept.{Swept}
use Rattle.sets.specs.Quorum.{largest}
use Rattle.one_round.proofs.Sweeps.{swept-still, swept-less, swept-largest}
use Rattle.sets.proofs.Lawful.{inside-grows}
use Rattle.sets.proofs.Quorum.{largest-stop, largest_step}
use Rattle.sets.proofs.Rows.{rows-lawful}
use Rattle.sets.specs.Inner.Rows.{rules_of}
use Rattle.rounds.proofs.largest_set.Goals as goal

pub first_round-set-requires : goal.first_round-set-requires
first_round-set-requires c =
    record { rows = c.requires; places_len = refl }

pub returns-then-set-w : goal.returns-then-set-w
returns-then-set-w c =
    let a = c.args in c.if-set-w.true ∙ sym (largest-stop (rules_of a.table.now).inside a.n a.w (sym c.first_round-set.ensures.0 ∙ c.if-set-w.true))

pub loop-set-init : goal.loop-set-init
loop-set-init c =
    let a = c.args in let s = (rules_of a.table.now).inside in
    let r = c.first_round-set.ensures in (r.1, ap (largest s a.n) r.0 ∙ sym (largest_step s a.n a.w (λ q. c.if-set-w.false (r.0 ∙ q))))

pub sweep_through-left-requires : goal.sweep_through-left-requires
sweep_through-left-requires c =
    record { rows = c.requires; places = c.loop-set.invariant.0 }

pub returns-then-left-set : goal.returns-then-left-set
returns-then-left-set c =
    let a = c.args in let s = (rules_of a.table.now).inside in
    let l = c.loop-set in let e = swept-still a.n (subst (λ (k : ℕ). Swept s a.n c.loop-set.set k) c.if-left-set.true c.sweep_through-left.ensures.0) in
    sym (largest-stop s a.n c.loop-set.set e) ∙ c.loop-set.invariant.1

pub loop-set-smaller : goal.loop-set-smaller
loop-set-smaller c =
    swept-less c.args.n c.sweep_through-left.ensures.0 c.if-left-set.false

pub loop-set-preserved : goal.loop-set-preserved
loop-set-preserved c =
    let x = c.sweep_through-left.ensures in (x.1, swept-largest c.args.n (inside-grows (rows-lawful c.requires)) x.0 ∙ c.loop-set.invariant.1)
