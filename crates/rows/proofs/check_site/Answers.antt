-- `check_site` meets its contract: each way out is the definition at what was found before it.
use mathlib.Core.Bool.{Bool}
use mathlib.Core.Path.{sym, ap, ◌∙◌}
use native.Mathlib.Omega.{arith}
use Rattle.refusals.proofs.Passed.{passed_on}
use Rattle.refusals.specs.First.{refuse}
use Rattle.refusals.specs.declared.Refusal.TheVariants.{Filler}
use Rattle.rows.specs.Row.{slice_check}
use Rattle.rows.specs.Site.{count, slice, row_unfilled, site_check}
use Rattle.rows.proofs.Row.{no-slice, many-slices, bad-slice, good-slices}
use Rattle.rows.proofs.check_site.Goals as goal

pub returns-then-many-eq0 : goal.returns-then-many-eq0
unfolding site_check
returns-then-many-eq0 c =
    let a = c.args in let m = a.m.now in
    sym (no-slice (slice_check a.n a.owner a.place (slice m)) a.place (count m) (row_unfilled m) (omega arith))

pub returns-then-many-gt62 : goal.returns-then-many-gt62
unfolding site_check
returns-then-many-gt62 c =
    let a = c.args in let m = a.m.now in
    sym (many-slices (slice_check a.n a.owner a.place (slice m)) a.place (count m) (row_unfilled m) (omega arith))

pub returns-in_err-check_slices : goal.returns-in_err-check_slices
unfolding site_check
returns-in_err-check_slices c =
    let a = c.args in let m = a.m.now in
    let e = c.in_err-check_slices.was in
    passed_on c.from_residual.result c.from_residual.ensures.1
    ∙ (sym (bad-slice (slice_check a.n a.owner a.place (slice m)) a.place (count m) (row_unfilled m) (λ e. omega arith) (omega arith) c.check_slices.ensures e))

pub returns-then-is_unfilled : goal.returns-then-is_unfilled
unfolding site_check
returns-then-is_unfilled c =
    let a = c.args in let m = a.m.now in
    sym (good-slices (slice_check a.n a.owner a.place (slice m)) a.place (count m) (row_unfilled m) (λ e. omega arith) (omega arith) c.check_slices.ensures
    c.in_ok-check_slices.was
    ∙ ap (λ (u : Bool). refuse u (Filler a.place)) (sym c.is_unfilled.ensures ∙ c.if-is_unfilled.true))

pub returns : goal.returns
unfolding site_check
returns c =
    let a = c.args in let m = a.m.now in
    sym (good-slices (slice_check a.n a.owner a.place (slice m)) a.place (count m) (row_unfilled m) (λ e. omega arith) (omega arith) c.check_slices.ensures
    c.in_ok-check_slices.was
    ∙ ap (λ (u : Bool). refuse u (Filler a.place)) (sym c.is_unfilled.ensures ∙ c.if-is_unfilled.false))
