-- `siren_threshold_largest` meets its contract: it says what the library answers.
use Rattle.said_sets.specs.Said.{of_greatest}
use Rattle.telling.proofs.Laws.{said}
use Rattle.capi.proofs.thresholds.siren_threshold_largest.Goals as goal

pub returns : goal.returns
returns c =
    let r = said of_greatest c.largest.ensures (c.greatest.ensures.answer, c.greatest.ensures.memory) in record { answer = r.0; told = r.1 }
