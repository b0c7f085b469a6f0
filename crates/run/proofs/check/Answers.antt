-- `check` meets its contract: the table's refusal, or 10, 17, 9.
use mathlib.Core.Path.{sym, ◌∙◌}
use Rattle.refusals.proofs.Passed.{passed_on}
use Rattle.run.proofs.RunWays.{check-refused, check-rest}
use Rattle.sets.proofs.Groups.{checked-rows}
use Rattle.sets.specs.Groups.{lists}
use Rattle.run.proofs.check.Goals as goal

pub returns-in_err-check : goal.returns-in_err-check
returns-in_err-check c =
    let a = c.args in let e = c.in_err-check.was in passed_on c.from_residual.result c.from_residual.ensures.1 ∙ (sym (check-refused (lists a.table.now) a.faulty a.bytes a.state a.answers (sym c.check.ensures ∙ e)))

pub check_of-requires : goal.check_of-requires
check_of-requires c =
    let a = c.args in (checked-rows a.table.now (sym c.check.ensures ∙ c.in_ok-check.was)).few-sites

pub returns : goal.returns
returns c =
    let a = c.args in c.check_of.ensures
    ∙ check-rest (lists a.table.now) a.faulty a.bytes a.state a.answers (sym c.check.ensures ∙ c.in_ok-check.was)
