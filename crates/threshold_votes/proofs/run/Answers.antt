-- `run` meets its contract: the image's refusal, or what its rows say.
use mathlib.Core.Path.{refl, sym, ◌∙◌}
use native.Mathlib.Omega.{arith}
use lib.Seq.{length-take-le}
use Rattle.refusals.proofs.Passed.{passed_on}
use Rattle.sets.specs.Groups.{thresholds}
use Rattle.threshold_questions.proofs.Loaded.{room_fits, loaded-rows}
use lib.ListN.{length}
use Rattle.run.proofs.RunWays.{check-refused, ran-refused, ran-rows, states-rows, answers-rows}
use Rattle.threshold_votes.proofs.run.Goals as goal

pub returns-in_err-check : goal.returns-in_err-check
returns-in_err-check c =
    let a = c.args in let t = thresholds a.image.now in
    let e = sym c.check.ensures ∙ c.in_err-check.was in
    rw (passed_on c.from_residual.result c.from_residual.ensures.1) (let x = ran-refused t a.faulty a.list.now a.state.now a.answers.now
    (check-refused t a.faulty (length a.list.now) (length a.state.now) (length a.answers.now) e) in record { answer = x.0; states = x.1; bytes = x.2 })

pub slice_bounds-load-end : goal.slice_bounds-load-end
slice_bounds-load-end c =
    refl

pub load-requires : goal.load-requires
load-requires c =
    let r = room_fits c.args.image.now (sym c.check.ensures ∙ c.in_ok-check.was) in record { image_len = r.0; n_bound = r.1.0; n_in_bounds = r.1.1 }

pub slice_bounds-rows-end : goal.slice_bounds-rows-end
slice_bounds-rows-end c =
    let f = room_fits c.args.image.now (sym c.check.ensures ∙ c.in_ok-check.was) in
    omega (arith, f.1.1, c.load.auto.room)

pub slice_bounds-run_of-end : goal.slice_bounds-run_of-end
slice_bounds-run_of-end c =
    let f = room_fits c.args.image.now (sym c.check.ensures ∙ c.in_ok-check.was) in
    sym (length-take-le _ _ (omega (arith, f.1.1, c.load.auto.room)))

pub run_of-requires : goal.run_of-requires
run_of-requires c =
    (loaded-rows c.args.image.now (sym c.check.ensures ∙ c.in_ok-check.was)
    (λ i. (c.shared_slice_known-1.given i).fits) _ _ c.load.ensures).right

pub returns : goal.returns
returns c =
    let a = c.args in let w = loaded-rows a.image.now (sym c.check.ensures ∙ c.in_ok-check.was)
    (λ i. (c.shared_slice_known-1.given i).fits) _ _ c.load.ensures in
    let x = c.run_of.ensures in record {
      answer = x.answer ∙ ran-rows w a.faulty a.list.now (length a.state.now) (length a.answers.now);
      states = x.states ∙ states-rows w a.faulty a.list.now _
          a.state.now;
      bytes = x.bytes ∙ answers-rows w a.faulty a.list.now _ a.answers.now;
    }
