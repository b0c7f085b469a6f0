-- `siren_shared` meets its contract: it says what the library answers.
use Rattle.said_sets.specs.Said.{of_sharing}
use Rattle.telling.proofs.Laws.{said}
use Rattle.capi.proofs.siren_shared.Goals as goal

pub returns : goal.returns
returns c =
    let r = said of_sharing c.shared.ensures (c.sharing.ensures.answer, c.sharing.ensures.memory) in record { answer = r.0; told = r.1 }
