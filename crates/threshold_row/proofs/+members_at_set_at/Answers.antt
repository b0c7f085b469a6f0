-- `set_at` and `members_at` meet their contracts.
use Prim.Native.Nat.{ℕ, ◌-◌, ◌/◌, ◌%◌, ◌≤◌, ◌<◌}
use mathlib.Core.Path.{ap, subst}
use native.Mathlib.Omega.{arith}
use borrow.Author.Rules.{rules}
use Rattle.threshold_row.specs.Inner.Row.{sets_of}
use Rattle.threshold_sets.specs.Met.{set_at}
use Rattle.threshold_row.proofs.SetLaws.{past-levels, set-reached, set-leaf, no_member, none_left, member-then}
use Rattle.threshold_row.proofs.+members_at_set_at.Goals as goal

pub members_at-returns-then-k-eq0 : goal.members_at-returns-then-k-eq0
members_at-returns-then-k-eq0 t c =
    let a = c.args in
    let S = sets_of a.m.now in
    (no_member S a.u (set_at S a.u a.levels) a.i c.if-k-eq0.true, search rules, search rules)

pub members_at-returns-then-many-i : goal.members_at-returns-then-many-i
members_at-returns-then-many-i t c =
    let a = c.args in
    let S = sets_of a.m.now in
    (none_left S a.u (set_at S a.u a.levels) a.k a.i (subst (λ (x : ℕ). x ≤ a.i) c.requires.many_value c.if-many-i.true), search rules, search rules)

pub members_at-returns : goal.members_at-returns
members_at-returns t c =
    let a = c.args in
    let S = sets_of a.m.now in (
      member-then S a.u (set_at S a.u a.levels) (a.k - 1) a.i (omega (arith, c.if-k-eq0.false))
          (subst (λ (x : ℕ). a.i < x) c.requires.many_value c.if-many-i.false) c.set_at-one.ensures.0 c.members_at-rest.ensures.0,
      search rules,
      search rules,
    )

pub set_at-returns-then-levels-eq0 : goal.set_at-returns-then-levels-eq0
set_at-returns-then-levels-eq0 t c =
    let a = c.args in
    (past-levels (sets_of a.m.now) a.u a.i c.if-levels-eq0.true, search rules, search rules)

pub set_at-returns-then-two-lt256 : goal.set_at-returns-then-two-lt256
set_at-returns-then-two-lt256 t c =
    let a = c.args in
    let two = c.pair-two.ensures.0 in
    let r = c.reached.ensures in (
      set-leaf (sets_of a.m.now) a.u (a.levels - 1) a.i (omega (arith, c.if-levels-eq0.false))
          (omega (arith, two, c.if-two-lt256.true)) c.present-here.ensures.0 (ap (λ (x : ℕ). x % 256) two) r.0 r.1,
      r.2,
      search rules,
    )

pub set_at-returns : goal.set_at-returns
set_at-returns t c =
    let a = c.args in
    let two = c.pair-two.ensures.0 in
    let below = c.members_at-below.ensures in
    let r = c.reached-2.ensures in (
      set-reached (sets_of a.m.now) a.u (a.levels - 1) a.i (omega (arith, c.if-levels-eq0.false))
          (ap (λ (x : ℕ). x / 256) two) below.0 c.present-here.ensures.0 (ap (λ (x : ℕ). x % 256) two) r.0 r.1,
      r.2,
      search rules,
    )
