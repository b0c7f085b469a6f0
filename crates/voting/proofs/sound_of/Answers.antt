-- `sound_of` meets its contract: one law for each way out.
use mathlib.Core.Path.{◌∙◌}
use Rattle.refusals.proofs.Passed.{passed_on}
use Rattle.voting.proofs.StepWays.{set-refused, state-refused, state-sound}
use Rattle.voting.proofs.sound_of.Goals as goal

pub check_set-requires : goal.check_set-requires
check_set-requires c =
    c.requires.few-sites

pub returns-in_err-check_set : goal.returns-in_err-check_set
returns-in_err-check_set c =
    let a = c.args in passed_on c.from_residual.result c.from_residual.ensures.1 ∙ (set-refused a.rows.now a.n a.faulty a.state.now c.check_set.ensures c.in_err-check_set.was)

pub returns-then-is_unsound : goal.returns-then-is_unsound
returns-then-is_unsound c =
    let a = c.args in state-refused a.rows.now a.n a.faulty a.state.now c.check_set.ensures c.in_ok-check_set.was
    c.is_unsound.ensures c.if-is_unsound.true

pub returns : goal.returns
returns c =
    let a = c.args in state-sound a.rows.now a.n a.faulty a.state.now c.check_set.ensures c.in_ok-check_set.was
    c.is_unsound.ensures c.if-is_unsound.false
