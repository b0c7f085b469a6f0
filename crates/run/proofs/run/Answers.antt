-- `run` meets its contract: the table's refusal leaves both rooms; else its rows are run.
use mathlib.Core.Path.{sym, ◌∙◌}
use lib.ListN.{length}
use Rattle.refusals.proofs.Passed.{passed_on}
use Rattle.run.proofs.RunWays.{check-refused, ran-refused, ran-rows, states-rows, answers-rows}
use Rattle.sets.proofs.Groups.{checked-rows, as_rows}
use Rattle.sets.specs.Groups.{lists}
use Rattle.run.proofs.run.Goals as goal

pub returns-in_err-check : goal.returns-in_err-check
returns-in_err-check c =
    let a = c.args in let t = lists a.table.now in
    let e = sym c.check.ensures ∙ c.in_err-check.was in
    rw (passed_on c.from_residual.result c.from_residual.ensures.1) (let x = ran-refused t a.faulty a.list.now a.state.now a.answers.now
    (check-refused t a.faulty (length a.list.now) (length a.state.now) (length a.answers.now) e) in record { answer = x.0; states = x.1; bytes = x.2 })

pub run_of-requires : goal.run_of-requires
run_of-requires c =
    checked-rows c.args.table.now (sym c.check.ensures ∙ c.in_ok-check.was)

pub returns : goal.returns
returns c =
    let a = c.args in let t = a.table.now in
    let e = sym c.check.ensures ∙ c.in_ok-check.was in
    let x = c.run_of.ensures in record {
      answer = x.answer ∙ ran-rows (as_rows t e) a.faulty a.list.now (length a.state.now) (length a.answers.now);
      states = x.states ∙ states-rows (as_rows t e)
          a.faulty a.list.now _ a.state.now;
      bytes = x.bytes ∙ answers-rows (as_rows t e) a.faulty a.list.now _ a.answers.now;
    }
