-- `siren_threshold_quorum` meets its contract: it says what the library answers.
use Rattle.said_sets.specs.Said.{of_holds}
use Rattle.telling.proofs.Laws.{said}
use Rattle.capi.proofs.thresholds.siren_threshold_quorum.Goals as goal

pub returns : goal.returns
returns c =
    let r = said of_holds c.quorum.ensures (c.holds.ensures.answer, c.holds.ensures.memory) in record { answer = r.0; told = r.1 }
