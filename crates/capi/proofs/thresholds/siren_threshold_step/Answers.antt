-- `siren_threshold_step` meets its contract: it says what the library answers, and the room is as the library leaves it.
use Rattle.said.specs.Said.{of_check}
use Rattle.telling.proofs.Laws.{said}
use Rattle.capi.proofs.thresholds.siren_threshold_step.Goals as goal

pub returns : goal.returns
returns c =
    let e = c.step.ensures in let p = said of_check e.answer (c.check.ensures.answer, c.check.ensures.memory) in record { answer = p.0; told = p.1; memory = e.memory }
