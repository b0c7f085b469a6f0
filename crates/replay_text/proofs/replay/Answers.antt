-- `replay` meets its contract: the refusal of the table, the mask or the journal, or the run of the list that the journal keeps.
use mathlib.Core.Path.{sym, ap, ◌∙◌}
use native.Mathlib.Omega.{arith}
use lib.ListN.{take}
use lib.Seq.{length-take-le}
use Rattle.journal.specs.Journal.{list_into}
use Rattle.lines.proofs.Chain.{as-text, both}
use Rattle.replay_text.proofs.Ways.{list-short, replay-unasked, replay-refused, replay-read}
use Rattle.replay_text.proofs.replay.Goals as goal

pub returns-in-Err : goal.returns-in-Err
returns-in-Err c =
    let a = c.args in let r = both (as-text (replay-unasked a.faulty a.image.now a.journal.now _ (sym c.asked.ensures ∙ c.in-Err.is)) c.put_explained.ensures) in record { text = r.0; counts = r.1 }

pub slice_bounds-calls-end : goal.slice_bounds-calls-end
slice_bounds-calls-end c =
    let a = c.args in omega (arith, list-short a.journal.now _ (sym c.list.ensures.answer ∙ c.in-Ok.is), c.list.auto.room)

pub slice_bounds-run-end : goal.slice_bounds-run-end
slice_bounds-run-end c =
    sym (length-take-le _ _ ((let a = c.args in omega (arith, list-short a.journal.now _ (sym c.list.ensures.answer ∙ c.in-Ok.is), c.list.auto.room))))

pub returns-in-Ok : goal.returns-in-Ok
returns-in-Ok c =
    let a = c.args in let r = both (as-text
    (replay-read a.faulty a.image.now a.journal.now (sym c.asked.ensures ∙ c.in_default.is) c.in-Ok.n _ _
    (sym c.list.ensures.answer ∙ c.in-Ok.is)
    (ap (take c.in-Ok.n) (c.list.ensures.memory ∙ ap (λ x. list_into x a.journal.now _) c.in-Ok.is)))
    c.run.ensures.text) in record { text = r.0; counts = r.1 }

pub returns-in-Err-list : goal.returns-in-Err-list
returns-in-Err-list c =
    let a = c.args in let r = both (as-text
    (replay-refused a.faulty a.image.now a.journal.now (sym c.asked.ensures ∙ c.in_default.is) _
    (sym c.list.ensures.answer ∙ c.in-Err-list.is))
    c.put_explained-in-Err-list.ensures) in record { text = r.0; counts = r.1 }
