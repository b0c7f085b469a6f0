-- `siren_threshold_intact` meets its contract: it says what the library answers.
use Rattle.said.specs.Said.{of_number}
use Rattle.telling.proofs.Laws.{said}
use Rattle.capi.proofs.thresholds.siren_threshold_intact.Goals as goal

pub returns : goal.returns
returns c =
    let r = said of_number c.intact.ensures (c.number.ensures.answer, c.number.ensures.memory) in record { answer = r.0; told = r.1 }
