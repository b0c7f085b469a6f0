-- `in_largest` meets its contract: v is in what is left, which has the largest quorum of w; a sweep that drops v, or nobody, settles it.
use Prim.Native.Nat.{ℕ}
use mathlib.Core.Path.{◌≡◌, refl, sym, ap, ◌∙◌, subst}
use Rattle.ground.proofs.Logic.{is_false, clash}
use Rattle.masks.proofs.Laws.Subsets.{mem}
use Rattle.masks.specs.Mask.{has}
use Rattle.one_round.specs.Inner.Swept.{Swept}
use Rattle.sets.specs.Quorum.{round, largest}
use Rattle.one_round.proofs.Sweeps.{swept-still, swept-less, swept-largest}
use Rattle.sets.proofs.Lawful.{inside-grows}
use Rattle.sets.proofs.Quorum.{∈-round, round-slice, largest-stop, largest_step, largest-⊆, largest-⊆-round}
use Rattle.sets.proofs.Rows.{rows-lawful}
use Rattle.sets.specs.Inner.Rows.{rules_of}
use Rattle.rounds.proofs.in_largest.Goals as goal
use Rattle.rounds.proofs.in_largest.Goals.{then-not-has-via-then-not-has, then-not-has-via-else-not-has+then-not-has_slice}

pub returns-then-not-has : goal.returns-then-not-has
returns-then-not-has c =
    let a = c.args in let s = (rules_of a.table.now).inside in
    sym (is_false (has (largest s a.n a.w) a.v)
    (λ h. elim c.then-not-has.branch [
      | then-not-has-via-then-not-has w ↦ clash ((largest-⊆ s a.n a.w).each a.v (mem h)).holds (sym c.has.ensures ∙ w.if-not-has.true)
      | then-not-has-via-else-not-has+then-not-has_slice w ↦
          clash (round-slice s a.n ((largest-⊆-round s a.n a.w).each a.v (mem h))) (sym w.has_slice.ensures ∙ w.if-not-has_slice.true)
    ]))

pub first_round-set-requires : goal.first_round-set-requires
first_round-set-requires c =
    record { rows = c.requires.rows; places_len = refl }

pub returns-then-set-w : goal.returns-then-set-w
returns-then-set-w c =
    let a = c.args in let s = (rules_of a.table.now).inside in
    let e : round s a.n a.w ≡ a.w = sym c.first_round-set.ensures.0 ∙ c.if-set-w.true in
    sym (ap (λ (x : ℕ). has x a.v) (largest-stop s a.n a.w e) ∙ sym c.has.ensures ∙ c.if-not-has.false)

pub loop-set-init : goal.loop-set-init
loop-set-init c =
    let a = c.args in let s = (rules_of a.table.now).inside in
    let r = c.first_round-set.ensures in let inside = sym c.has_slice.ensures ∙ c.if-not-has_slice.false in
    let member = mem (sym c.has.ensures ∙ c.if-not-has.false) in (
      r.1,
      ap (largest s a.n) r.0 ∙ sym (largest_step s a.n a.w (λ q. c.if-set-w.false (r.0 ∙ q))),
      ap (λ (x : ℕ). has x a.v) r.0 ∙ (∈-round s a.n c.requires.v_lt_n member inside).holds,
    )

pub sweep_through-stay-requires : goal.sweep_through-stay-requires
sweep_through-stay-requires c =
    record { rows = c.requires.rows; places = c.loop-set.invariant.0 }

pub returns-then-stay-set : goal.returns-then-stay-set
returns-then-stay-set c =
    let a = c.args in let s = (rules_of a.table.now).inside in
    let l = c.loop-set in let e = swept-still a.n (subst (λ (k : ℕ). Swept s a.n c.loop-set.set k) c.if-stay-set.true c.sweep_through-stay.ensures.0) in
    sym c.loop-set.invariant.2 ∙ ap (λ (x : ℕ). has x a.v) (sym (largest-stop s a.n c.loop-set.set e) ∙ c.loop-set.invariant.1)

pub returns-then-not-has-2 : goal.returns-then-not-has-2
returns-then-not-has-2 c =
    let a = c.args in let s = (rules_of a.table.now).inside in
    let l = c.loop-set in let x = c.sweep_through-stay.ensures.0 in sym (is_false (has (largest s a.n a.w) a.v)
    (λ h. clash (x.keeps.each a.v (mem (ap (λ (x : ℕ). has x a.v) c.loop-set.invariant.1 ∙ h))).holds (sym c.has-in-loop-set.ensures ∙ c.if-not-has-2.true)))

pub loop-set-smaller : goal.loop-set-smaller
loop-set-smaller c =
    swept-less c.args.n c.sweep_through-stay.ensures.0 c.if-stay-set.false

pub loop-set-preserved : goal.loop-set-preserved
loop-set-preserved c =
    let x = c.sweep_through-stay.ensures in (
      x.1,
      swept-largest c.args.n (inside-grows (rows-lawful c.requires.rows)) x.0 ∙ c.loop-set.invariant.1,
      sym c.has-in-loop-set.ensures ∙ c.if-not-has-2.false,
    )
