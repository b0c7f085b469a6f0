-- `siren_image_read` meets its contract: it says what the library answers, and the room is as the library leaves it.
use mathlib.Core.Path.{ap, ◌∙◌}
use Rattle.said.specs.Said.{of_number}
use Rattle.image.specs.Read.{read_into}
use Rattle.telling.proofs.Laws.{said}
use Rattle.capi.proofs.siren_image_read.Goals as goal

pub returns : goal.returns
returns c =
    let a = c.args in let e = c.read.ensures in let p = said of_number e.answer (c.number.ensures.answer, c.number.ensures.memory) in record
    { answer = p.0; told = p.1; memory = e.memory ∙ ap (λ r. read_into r a.image.now a.room.now) e.answer }
