-- `step` meets its contract: the image's refusal, or what its rows say.
use mathlib.Core.Path.{refl, sym, ap, ◌∙◌}
use native.Mathlib.Omega.{arith}
use lib.Seq.{length-take-le}
use Rattle.refusals.proofs.Passed.{passed_on}
use Rattle.sets.specs.Groups.{thresholds}
use Rattle.threshold_questions.proofs.Loaded.{room_fits, loaded-rows}
use Rattle.votes.specs.Call.{call}
use Rattle.voting.proofs.StepWays.{step-refused, step-rows, into-rows}
use Rattle.threshold_votes.proofs.step.Goals as goal

pub returns-in_err-check : goal.returns-in_err-check
returns-in_err-check c =
    let a = c.args in rw (passed_on c.from_residual.result c.from_residual.ensures.1) (let r = step-refused (thresholds a.image.now) a.faulty a.state.now (sym c.check.ensures ∙ c.in_err-check.was)
    (call a.kind a.from a.to a.side) in record { answer = r.0; memory = r.1 })

pub slice_bounds-load-end : goal.slice_bounds-load-end
slice_bounds-load-end c =
    refl

pub load-requires : goal.load-requires
load-requires c =
    let r = room_fits c.args.image.now (sym c.check.ensures ∙ c.in_ok-check.was) in record { image_len = r.0; n_bound = r.1.0; n_in_bounds = r.1.1 }

pub slice_bounds-rows-end : goal.slice_bounds-rows-end
slice_bounds-rows-end c =
    let f = room_fits c.args.image.now (sym c.check.ensures ∙ c.in_ok-check.was) in
    omega (arith, f.1.1, c.load.auto.room)

pub slice_bounds-step_of-end : goal.slice_bounds-step_of-end
slice_bounds-step_of-end c =
    let f = room_fits c.args.image.now (sym c.check.ensures ∙ c.in_ok-check.was) in
    sym (length-take-le _ _ (omega (arith, f.1.1, c.load.auto.room)))

pub step_of-requires : goal.step_of-requires
step_of-requires c =
    (loaded-rows c.args.image.now (sym c.check.ensures ∙ c.in_ok-check.was)
    (λ i. (c.shared_slice_known-1.given i).fits) _ _ c.load.ensures).right

pub returns : goal.returns
returns c =
    let a = c.args in let w = loaded-rows a.image.now (sym c.check.ensures ∙ c.in_ok-check.was)
    (λ i. (c.shared_slice_known-1.given i).fits) _ _ c.load.ensures in
    let d = call a.kind a.from a.to a.side in
    let r = c.step_of.ensures in record { answer = r.answer ∙ (step-rows w a.faulty a.state.now d); memory = r.memory ∙ into-rows w a.faulty a.state.now d }
