-- `slices_listed` meets its contract: the first i slices of v are taken; a slice that is no such set ends it, since those behind it are larger.
use Prim.Native.Nat.{ℕ, ◌+◌, ◌≤◌, ◌<◌}
use mathlib.Core.Path.{◌≡◌, sym, subst}
use native.Mathlib.Omega.{arith}
use lib.Bits.{bit_or}
use borrow.Author.Rules.{rules}
use Rattle.masks.specs.Mask.{single}
use Rattle.early_quorums.specs.Inner.{Counted}
use Rattle.early_quorums.proofs.EarlyLaws.{counted_none, counted-more, counted-all, counted_stop}
use Rattle.table.proofs.Table.{count_at, slice_at}
use Rattle.table.specs.Table.{count_of}
use Rattle.early_quorums.proofs.slices_listed.Goals as goal

pub loop-i-init : goal.loop-i-init
loop-i-init c =
    let t = c.args.table.now in (
      subst (λ (k : ℕ). k ≤ 62) (count_at t c.args.v) c.requires.listed_row.few-slices,
      counted_none t c.args.v,
    )

pub returns-then-q-ge64 : goal.returns-then-q-ge64
returns-then-q-ge64 c =
    let a = c.args in let t = a.table.now in
    let few : c.loop-i.i < 62 = omega arith in
    counted_stop c.requires.listed_row c.loop-i.i
    (subst (λ (q : ℕ). 64 ≤ q) (sym (slice_at t a.v c.loop-i.i few)) c.if-q-ge64.true) c.loop-i.invariant.1

pub loop-i-preserved : goal.loop-i-preserved
loop-i-preserved c =
    let a = c.args in let t = a.table.now in
    let few : c.loop-i.i < 62 = omega arith in
    let own : c.loop-i.i < count_of t a.v = omega (arith, count_at t a.v) in (
      search rules,
      subst (λ (k : ℕ). Counted t a.v (c.loop-i.i + 1) (bit_or c.loop-i.sets k)) (sym c.single-sets.ensures)
          (subst (λ (q : ℕ). Counted t a.v (c.loop-i.i + 1) (bit_or c.loop-i.sets (single q))) (slice_at t a.v c.loop-i.i few) (counted-more t a.v c.loop-i.i own c.loop-i.invariant.1)),
    )

pub returns : goal.returns
returns c =
    let a = c.args in let t = a.table.now in
    let e : c.loop-i.i ≡ count_of t a.v = omega (arith, count_at t a.v) in
    counted-all t a.v (subst (λ (k : ℕ). Counted t a.v k c.loop-i.sets) e c.loop-i.invariant.1)
