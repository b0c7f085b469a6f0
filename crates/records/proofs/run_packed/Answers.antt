-- `run_packed` meets its contract: the table's refusal, or the run of its rows.
use mathlib.Core.Path.{sym, ◌∙◌}
use Rattle.refusals.proofs.Passed.{passed_on}
use Rattle.records.proofs.Ended.{table-refused, table-ends}
use Rattle.sets.proofs.Groups.{checked-rows, as_rows}
use Rattle.sets.specs.Groups.{lists}
use Rattle.records.proofs.run_packed.Goals as goal

pub returns-in_err-check : goal.returns-in_err-check
returns-in_err-check c =
    let a = c.args in rw (passed_on c.from_residual.result c.from_residual.ensures.1) (table-refused (lists a.table.now) a.faulty a.room.now a.n a.state.now a.answers.now (sym c.check.ensures ∙ c.in_err-check.was))

pub run_packed_of-requires : goal.run_packed_of-requires
run_packed_of-requires c =
    checked-rows c.args.table.now (sym c.check.ensures ∙ c.in_ok-check.was)

pub returns : goal.returns
returns c =
    let a = c.args in table-ends (as_rows a.table.now (sym c.check.ensures ∙ c.in_ok-check.was)) a.faulty a.room.now a.n a.state.now a.answers.now
    c.run_packed_of.ensures
