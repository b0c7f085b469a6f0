-- `sound` meets its contract: the table's refusal, or what its rows say.
use mathlib.Core.Path.{sym, ◌∙◌}
use Rattle.refusals.proofs.Passed.{passed_on}
use Rattle.sets.proofs.Groups.{checked-rows, as_rows}
use Rattle.sets.specs.Groups.{lists}
use Rattle.voting.proofs.StepWays.{sound-refused, sound-rows}
use Rattle.voting.proofs.sound.Goals as goal

pub returns-in_err-check : goal.returns-in_err-check
returns-in_err-check c =
    let a = c.args in passed_on c.from_residual.result c.from_residual.ensures.1 ∙ (sound-refused (lists a.table.now) a.faulty a.state.now c.check.ensures c.in_err-check.was)

pub sound_of-requires : goal.sound_of-requires
sound_of-requires c =
    let a = c.args in checked-rows a.table.now (sym c.check.ensures ∙ c.in_ok-check.was)

pub returns : goal.returns
returns c =
    let a = c.args in c.sound_of.ensures ∙ sound-rows (as_rows a.table.now (sym c.check.ensures ∙ c.in_ok-check.was)) a.faulty a.state.now
