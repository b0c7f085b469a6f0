-- `check_row` meets its contract: each way out is the definition at what was found before it.
use mathlib.Core.Bool.{Bool}
use mathlib.Core.Path.{sym, ap, ◌∙◌}
use native.Mathlib.Omega.{arith}
use Rattle.refusals.proofs.Passed.{passed_on}
use Rattle.refusals.specs.First.{refuse, first}
use Rattle.refusals.specs.declared.Refusal.TheVariants.{Filler}
use Rattle.rows.proofs.Row.{no-slice, many-slices, bad-slice, good-slices}
use Rattle.rows.specs.Row.{slice_check}
use Rattle.site_block.specs.Block.{count_field, slice_field, block_unfilled, block_row_check}
use Rattle.site_block.proofs.check_row.Goals as goal

pub returns-then-many-eq0 : goal.returns-then-many-eq0
unfolding block_row_check
returns-then-many-eq0 c =
    let a = c.args in let b = a.b.now in
    sym (no-slice (slice_check a.n a.owner a.place (slice_field b)) a.place (count_field b) (block_unfilled b) (omega (arith, c.get16-many.ensures)))

pub returns-then-many-gt62 : goal.returns-then-many-gt62
unfolding block_row_check
returns-then-many-gt62 c =
    let a = c.args in let b = a.b.now in
    sym (many-slices (slice_check a.n a.owner a.place (slice_field b)) a.place (count_field b) (block_unfilled b) (omega (arith, c.get16-many.ensures)))

pub returns-in_err-check_slices : goal.returns-in_err-check_slices
unfolding block_row_check
returns-in_err-check_slices c =
    let a = c.args in let b = a.b.now in
    let many = c.get16-many.ensures in let e = c.in_err-check_slices.was in passed_on c.from_residual.result c.from_residual.ensures.1
    ∙ (sym (bad-slice (slice_check a.n a.owner a.place (slice_field b)) a.place (count_field b) (block_unfilled b) (λ e. omega (arith, c.get16-many.ensures)) (omega (arith, c.get16-many.ensures))
    (c.check_slices.ensures ∙ ap (first (slice_check a.n a.owner a.place (slice_field b))) c.get16-many.ensures) e))

pub returns-then-is_unfilled : goal.returns-then-is_unfilled
unfolding block_row_check
returns-then-is_unfilled c =
    let a = c.args in let b = a.b.now in
    let many = c.get16-many.ensures in sym (good-slices (slice_check a.n a.owner a.place (slice_field b)) a.place (count_field b) (block_unfilled b) (λ e. omega (arith, c.get16-many.ensures)) (omega (arith, c.get16-many.ensures))
    (c.check_slices.ensures ∙ ap (first (slice_check a.n a.owner a.place (slice_field b))) c.get16-many.ensures) c.in_ok-check_slices.was
    ∙ ap (λ (u : Bool). refuse u (Filler a.place)) (sym c.is_unfilled.ensures ∙ c.if-is_unfilled.true))

pub returns : goal.returns
unfolding block_row_check
returns c =
    let a = c.args in let b = a.b.now in
    let many = c.get16-many.ensures in sym (good-slices (slice_check a.n a.owner a.place (slice_field b)) a.place (count_field b) (block_unfilled b) (λ e. omega (arith, c.get16-many.ensures)) (omega (arith, c.get16-many.ensures))
    (c.check_slices.ensures ∙ ap (first (slice_check a.n a.owner a.place (slice_field b))) c.get16-many.ensures) c.in_ok-check_slices.was
    ∙ ap (λ (u : Bool). refuse u (Filler a.place)) (sym c.is_unfilled.ensures ∙ c.if-is_unfilled.false))
