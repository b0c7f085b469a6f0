-- `largest` meets its contract: what is left has the answer of w, and the rounds so far and those left make all of them.
use Prim.Native.Nat.{ℕ, ◌+◌, ◌<◌}
use mathlib.Core.Path.{◌≡◌, refl, sym, ap, ◌∙◌, subst}
use native.Mathlib.Nat.{add-zero}
use native.Mathlib.Omega.{arith}
use lib.Count.{ones-le}
use Rattle.sets.specs.Quorum.{round, largest, rounds}
use Rattle.one_round.proofs.Places.{held_all}
use Rattle.sets.proofs.Quorum.{smaller, largest-stop, largest_step, rounds-stop, rounds-step, rounds-few}
use Rattle.sets.specs.Inner.Rows.{rules_of}
use Rattle.rounds.proofs.largest.Goals as goal

pub first_round-set-requires : goal.first_round-set-requires
first_round-set-requires c =
    record { rows = c.requires; places_len = refl }

pub returns-then-set-w : goal.returns-then-set-w
returns-then-set-w c =
    let a = c.args in let s = (rules_of a.table.now).inside in
    let e : round s a.n a.w ≡ a.w = sym c.first_round-set.ensures.0 ∙ c.if-set-w.true in
    (c.if-set-w.true ∙ sym (largest-stop s a.n a.w e), sym (rounds-stop s a.n a.w e))

pub loop-set-init : goal.loop-set-init
loop-set-init c =
    let a = c.args in let s = (rules_of a.table.now).inside in
    let r = c.first_round-set.ensures in let ne : round s a.n a.w ≡ a.w → ⊥ = λ q. c.if-set-w.false (r.0 ∙ q) in (
      r.1,
      held_all a.table.now a.n c.requires c.all_below-held.ensures,
      ap (largest s a.n) r.0 ∙ sym (largest_step s a.n a.w ne),
      (let f = ap (rounds s a.n) r.0 in
          let g = rounds-step s a.n a.w ne in
          omega arith),
    )

pub round_from-next-requires : goal.round_from-next-requires
round_from-next-requires c =
    let l = c.loop-set in record { rows = c.requires; places = c.loop-set.invariant.0; slices_held = c.loop-set.invariant.1 }

pub returns-then-next-set : goal.returns-then-next-set
returns-then-next-set c =
    let a = c.args in let s = (rules_of a.table.now).inside in
    let l = c.loop-set in let e : round s a.n c.loop-set.set ≡ c.loop-set.set = sym c.round_from-next.ensures.value ∙ c.if-next-set.true in (
      sym (largest-stop s a.n c.loop-set.set e) ∙ c.loop-set.invariant.2,
      sym (add-zero _) ∙ ap (λ (k : ℕ). c.loop-set.count + k) (sym (rounds-stop s a.n c.loop-set.set e)) ∙ c.loop-set.invariant.3,
    )

pub overflow_add-count : goal.overflow_add-count
overflow_add-count c =
    let a = c.args in omega (arith, c.loop-set.invariant.3, rounds-few (rules_of a.table.now).inside a.n a.w, ones-le 64 a.w c.ranges.w.fits)

pub loop-set-smaller : goal.loop-set-smaller
loop-set-smaller c =
    let a = c.args in let u = c.loop-set.set in let e = c.round_from-next.ensures.value in subst (λ (k : ℕ). k < u) (sym e) (smaller (rules_of a.table.now).inside a.n u (λ q. c.if-next-set.false (e ∙ q)))

pub loop-set-preserved : goal.loop-set-preserved
loop-set-preserved c =
    let a = c.args in let s = (rules_of a.table.now).inside in
    let l = c.loop-set in let r = c.round_from-next.ensures in let ne : round s a.n c.loop-set.set ≡ c.loop-set.set → ⊥ = λ q. c.if-next-set.false (r.value ∙ q) in (
      r.places_2,
      r.slices_held_2,
      ap (largest s a.n) r.value ∙ sym (largest_step s a.n c.loop-set.set ne) ∙ c.loop-set.invariant.2,
      (let f = ap (rounds s a.n) r.value in
          let g = rounds-step s a.n c.loop-set.set ne in
          let h = c.loop-set.invariant.3 in omega arith),
    )
