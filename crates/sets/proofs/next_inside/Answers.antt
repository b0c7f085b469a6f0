-- `next_inside` meets its contract: no slice from start up to i is inside u.
use Prim.Native.Nat.{ℕ, ◌≤◌, ◌<◌}
use mathlib.Core.Path.{sym, ap, ◌∙◌, subst}
use native.Mathlib.Nat.{lt_of_lt_of_le, lt_irrefl}
use native.Mathlib.Omega.{arith}
use borrow.Author.Count.{below_more}
use Rattle.masks.specs.Mask.{within}
use Rattle.table.proofs.Table.{count_at, slice_at}
use Rattle.table.specs.Table.{count_of}
use Rattle.sets.proofs.next_inside.Goals as goal

pub loop-i-init : goal.loop-i-init
loop-i-init c =
    let a = c.args in let p = c.requires in (subst (λ (k : ℕ). k ≤ 62) (count_at a.table.now a.v) p.listed_row.few-slices, λ k l m. absurd (omega arith))

pub returns-then-within : goal.returns-then-within
returns-then-within c =
    let a = c.args in let t = a.table.now in
    let few : c.loop-i.i < 62 = omega arith in
    let e = count_at t a.v in record {
      upper_bound = omega arith;
      u_value = λ h. ap (λ (q : ℕ). within q a.u) (slice_at t a.v c.loop-i.i few) ∙ sym c.within.ensures ∙ c.if-within.true;
      by_index = λ k
          m h. c.loop-i.invariant.1 k h m;
      lower_bound = λ h. omega arith;
    }

pub loop-i-preserved : goal.loop-i-preserved
loop-i-preserved c =
    let a = c.args in let t = a.table.now in
    let few : c.loop-i.i < 62 = omega arith in
    (c.loop-i.invariant.0, below_more _ _ c.loop-i.invariant.1 (λ m. ap (λ (q : ℕ). within q a.u) (slice_at t a.v c.loop-i.i few) ∙ sym c.within.ensures ∙ c.if-within.false))

pub returns : goal.returns
returns c =
    let a = c.args in let e = count_at a.table.now a.v in
    let beyond = lt_irrefl (count_of a.table.now a.v) in record {
      upper_bound = omega arith;
      u_value = λ h. absurd (beyond (subst (λ (k : ℕ). k < count_of a.table.now a.v) (sym e) h));
      by_index = λ k m h. c.loop-i.invariant.1 k
          (lt_of_lt_of_le h c.loop-i-test.false) m;
      lower_bound = λ h. absurd (beyond (subst (λ (k : ℕ). k < count_of a.table.now a.v) (sym e) h));
    }
