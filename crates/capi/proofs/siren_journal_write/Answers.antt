-- `siren_journal_write` meets its contract: it says what the library answers, and the room is as the library leaves it.
use mathlib.Core.Path.{ap, ◌∙◌}
use Rattle.journal_write.specs.Keep.{keep_into}
use Rattle.said.specs.Said.{of_number}
use Rattle.telling.proofs.Laws.{said}
use Rattle.capi.proofs.siren_journal_write.Goals as goal

pub returns : goal.returns
returns c =
    let a = c.args in let e = c.write.ensures in let p = said of_number e.answer (c.number.ensures.answer, c.number.ensures.memory) in record {
      answer = p.0;
      told = p.1;
      memory = e.memory
          ∙ ap (λ r. keep_into r a.calls.now a.room.now) e.answer;
    }
