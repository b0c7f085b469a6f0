-- `blocks_listed` meets its contract: the others of w meet each slice before i.
use Prim.Native.Nat.{ℕ, ◌≤◌, ◌<◌}
use mathlib.Core.Bool.{true, not}
use mathlib.Core.Path.{◌≡◌, sym, ap, ap₂, ◌∙◌, subst}
use native.Mathlib.Omega.{arith}
use lib.Bits.{bit_and}
use lib.Dec.{eqb}
use borrow.Author.Tests.{eq-eqb, ne_eqb}
use Rattle.ground.proofs.Every.{every-none, every_more, every-not}
use Rattle.ground.specs.Search.{every}
use Rattle.masks.specs.Mask.{minus, others}
use Rattle.sets.specs.Slices.{slices_of}
use Rattle.sets.proofs.Rows.{listed-blocked}
use Rattle.table.proofs.Table.{count_at, slice_at}
use Rattle.table.specs.Table.{count_of, slice_of}
use Rattle.sets.proofs.blocks_listed.Goals as goal

pub single-requires : goal.single-requires
single-requires c =
    let p = c.requires in omega (arith, p.rows.few-sites, p.v_lt_n)

pub loop-i-init : goal.loop-i-init
loop-i-init c =
    let a = c.args in let p = c.requires in let own = c.single.ensures in (
      subst (λ (k : ℕ). k ≤ 62) (count_at a.table.now a.v) p.listed_row.few-slices,
      c.minus-others.ensures ∙ ap (minus a.w) c.single.ensures,
      every-none _,
    )

pub returns-then-table-v-eq0 : goal.returns-then-table-v-eq0
unfolding slices_of
returns-then-table-v-eq0 c =
    let a = c.args in let t = a.table.now in
    let o = others a.w a.v in
    let i = c.loop-i.i in let l : i < 62 = omega arith in
    let e : bit_and (slice_of t a.v i) o ≡ 0 =
    ap₂ bit_and (slice_at t a.v i l) (sym c.loop-i.invariant.1) ∙ c.if-table-v-eq0.true in
    sym (every-not (count_of t a.v) (λ k. not (eqb (bit_and (slice_of t a.v k) o) 0)) {j = i}
    (subst (λ (k : ℕ). i < k) (sym (count_at t a.v)) c.loop-i-test.true) (ap not (eq-eqb _ 0 e)))
    ∙ sym (listed-blocked c.requires.listed_row a.w)

pub loop-i-preserved : goal.loop-i-preserved
loop-i-preserved c =
    let a = c.args in let t = a.table.now in
    let o = others a.w a.v in
    let i = c.loop-i.i in let v = c.loop-i.invariant in let l : i < 62 = omega arith in
    let ne : bit_and (slice_of t a.v i) o ≡ 0 → ⊥ =
    λ e. c.if-table-v-eq0.false (ap₂ bit_and (sym (slice_at t a.v i l)) v.1 ∙ e) in
    (v.0, v.1, every_more i _ v.2 (ap not (ne_eqb _ 0 ne)))

pub returns : goal.returns
unfolding slices_of
returns c =
    let a = c.args in let t = a.table.now in
    let e : c.loop-i.i ≡ count_of t a.v = omega (arith, count_at t a.v) in
    sym (subst (λ (m : ℕ). every m (λ k. not (eqb (bit_and (slice_of t a.v k) (others a.w a.v)) 0)) ≡ true) e c.loop-i.invariant.2)
    ∙ sym (listed-blocked c.requires.listed_row a.w)
