-- `siren_threshold_check` meets its contract: it says what the library answers.
use Rattle.said.specs.Said.{of_check}
use Rattle.telling.proofs.Laws.{said}
use Rattle.capi.proofs.thresholds.siren_threshold_check.Goals as goal

pub returns : goal.returns
returns c =
    let r = said of_check c.check.ensures (c.check-2.ensures.answer, c.check-2.ensures.memory) in record { answer = r.0; told = r.1 }
