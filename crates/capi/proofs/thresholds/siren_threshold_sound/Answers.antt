-- `siren_threshold_sound` meets its contract: it says what the library answers.
use Rattle.said.specs.Said.{of_check}
use Rattle.telling.proofs.Laws.{said}
use Rattle.capi.proofs.thresholds.siren_threshold_sound.Goals as goal

pub returns : goal.returns
returns c =
    let r = said of_check c.sound.ensures (c.check.ensures.answer, c.check.ensures.memory) in record { answer = r.0; told = r.1 }
