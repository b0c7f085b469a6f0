-- `is_quorum` meets its contract: each member of q below v has a slice inside q.
use mathlib.Core.Bool.{false}
use mathlib.Core.Path.{◌≡◌, sym, ap, ◌∙◌}
use native.Mathlib.Nat.{lt_of_lt_of_le}
use lib.Pow.{ones_lt}
use borrow.Author.Count.{below_none, below_more}
use Rattle.ground.proofs.Logic.{clash}
use Rattle.masks.proofs.Laws.Subsets.{mem, within-⊆, ∈-below}
use Rattle.masks.specs.Mask.{within, all_below, ◌⊆◌}
use Rattle.sets.specs.Quorum.{quorum}
use Rattle.sets.specs.Inner.Rows.{rules_of}
use Rattle.sets.proofs.Quorum.{quorum-of, quorum-empty, quorum-outside, quorum-lacks}
use Rattle.sets.proofs.is_quorum.Goals as goal
use Rattle.sets.proofs.is_quorum.Goals.{else-has-via-then-has+else-not-has_slice, else-has-via-else-has}

pub returns-then-q-eq0 : goal.returns-then-q-eq0
returns-then-q-eq0 c =
    let a = c.args in let s = (rules_of a.table.now).inside in
    sym (ap (quorum s a.n) c.if-q-eq0.true ∙ quorum-empty s a.n)

pub returns-then-not-within : goal.returns-then-not-within
returns-then-not-within c =
    let a = c.args in let e : within a.q (all_below a.n) ≡ false =
    ap (within a.q) (sym c.all_below.ensures) ∙ sym c.within.ensures ∙ c.if-not-within.true in
    sym (quorum-outside (rules_of a.table.now).inside a.n a.q e)

pub loop-v-init : goal.loop-v-init
loop-v-init c =
    below_none _

pub returns-then-not-has_slice : goal.returns-then-not-has_slice
returns-then-not-has_slice c =
    let a = c.args in sym (quorum-lacks (rules_of a.table.now).inside a.n (mem (sym c.has.ensures ∙ c.if-has.true))
    (sym c.has_slice.ensures ∙ c.if-not-has_slice.true))

pub loop-v-preserved : goal.loop-v-preserved
loop-v-preserved c =
    below_more _ _ c.loop-v.invariant
    (λ h. elim c.else-has.branch [
      | else-has-via-then-has+else-not-has_slice w ↦ sym w.has_slice.ensures ∙ w.if-not-has_slice.false
      | else-has-via-else-has w ↦ absurd (clash (c.has.ensures ∙ h.holds) w.if-has.false)
    ])

pub returns : goal.returns
returns c =
    let a = c.args in let q : a.q ⊆ all_below a.n =
    within-⊆ a.q (all_below a.n)
    (ap (within a.q) (sym c.all_below.ensures) ∙ sym c.within.ensures ∙ c.if-not-within.false) in
    sym (quorum-of (rules_of a.table.now).inside a.n c.if-q-eq0.false q
    (λ x h. c.loop-v.invariant x (lt_of_lt_of_le (∈-below (ones_lt a.n) (q.each x h)) c.loop-v-test.false) h))
