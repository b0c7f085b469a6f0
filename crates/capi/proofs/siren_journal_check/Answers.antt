-- `siren_journal_check` meets its contract: it says what the library answers.
use Rattle.said_journal.specs.Said.{of_checked}
use Rattle.telling.proofs.Laws.{said}
use Rattle.capi.proofs.siren_journal_check.Goals as goal

pub returns : goal.returns
returns c =
    let r = said of_checked c.check.ensures (c.checked.ensures.answer, c.checked.ensures.memory) in record { answer = r.0; told = r.1 }
