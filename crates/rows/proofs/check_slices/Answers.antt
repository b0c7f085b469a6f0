-- `check_slices` meets its contract: all slices are sound, or those before k are, and a refusal is the first.
use mathlib.Core.Path.{refl, sym, ◌∙◌}
use native.Mathlib.Omega.{arith}
use borrow.Author.Rules.{rules}
use Rattle.refusals.proofs.Passed.{passed_on}
use Rattle.refusals.proofs.First.{first_more, first-stop}
use Rattle.refusals.specs.First.{first}
use Rattle.rows.specs.Row.{slice_check}
use Rattle.rows.specs.Site.{slice}
use Rattle.rows.proofs.Row.{slice-walked, before-next}
use Rattle.rows.proofs.check_slices.Goals as goal

pub loop-k-init : goal.loop-k-init
unfolding first
loop-k-init c =
    (search rules, refl, refl)

pub returns-in_err-check_slice : goal.returns-in_err-check_slice
returns-in_err-check_slice c =
    let a = c.args in let e = c.in_err-check_slice.was in let row = slice a.m.now in
    passed_on c.from_residual.result c.from_residual.ensures.1
    ∙ sym (first-stop (slice_check a.n a.owner a.place row) a.many c.loop-k.k _ (omega arith) c.loop-k.invariant.2
    (slice-walked a.n a.owner a.place row c.loop-k.k c.loop-k.invariant.1 refl c.check_slice.ensures ∙ e))

pub loop-k-preserved : goal.loop-k-preserved
loop-k-preserved c =
    let a = c.args in let row = slice a.m.now in (
      search rules,
      before-next row c.loop-k.k,
      first_more _ _ c.loop-k.invariant.2
          (slice-walked a.n a.owner a.place row c.loop-k.k c.loop-k.invariant.1 refl c.check_slice.ensures ∙ c.in_ok-check_slice.was),
    )
