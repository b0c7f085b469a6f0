-- `largest` meets its contract: the image's refusal, or the answer of its rows.
use mathlib.Core.Path.{refl, sym, ◌∙◌}
use native.Mathlib.Omega.{arith}
use lib.Seq.{length-take-le}
use Rattle.refusals.proofs.Passed.{passed_on}
use Rattle.questions.proofs.Answers.{largest-refused, largest-rows}
use Rattle.sets.specs.Groups.{thresholds}
use Rattle.threshold_questions.proofs.Loaded.{room_fits, loaded-rows}
use Rattle.threshold_questions.proofs.largest.Goals as goal

pub returns-in_err-check : goal.returns-in_err-check
returns-in_err-check c =
    let a = c.args in passed_on c.from_residual.result c.from_residual.ensures.1 ∙ (largest-refused (thresholds a.image.now) (sym c.check.ensures ∙ c.in_err-check.was) a.set)

pub slice_bounds-load-end : goal.slice_bounds-load-end
slice_bounds-load-end c =
    refl

pub load-requires : goal.load-requires
load-requires c =
    let r = room_fits c.args.image.now (sym c.check.ensures ∙ c.in_ok-check.was) in record { image_len = r.0; n_bound = r.1.0; n_in_bounds = r.1.1 }

pub slice_bounds-rows-end : goal.slice_bounds-rows-end
slice_bounds-rows-end c =
    let f = room_fits c.args.image.now (sym c.check.ensures ∙ c.in_ok-check.was) in
    omega (arith, f.1.1, c.load.auto.room)

pub slice_bounds-largest_of-end : goal.slice_bounds-largest_of-end
slice_bounds-largest_of-end c =
    let f = room_fits c.args.image.now (sym c.check.ensures ∙ c.in_ok-check.was) in
    sym (length-take-le _ _ (omega (arith, f.1.1, c.load.auto.room)))

pub largest_of-requires : goal.largest_of-requires
largest_of-requires c =
    (loaded-rows c.args.image.now (sym c.check.ensures ∙ c.in_ok-check.was)
    (λ i. (c.shared_slice_known-1.given i).fits) _ _ c.load.ensures).right

pub returns : goal.returns
returns c =
    let a = c.args in c.largest_of.ensures
    ∙ largest-rows (loaded-rows a.image.now (sym c.check.ensures ∙ c.in_ok-check.was)
    (λ i. (c.shared_slice_known-1.given i).fits) _ _ c.load.ensures) a.set
