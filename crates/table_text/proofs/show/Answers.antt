-- The table that the image holds, or the refusal.
use mathlib.Core.Path.{sym, ap, ◌∙◌}
use native.Mathlib.Omega.{arith}
use borrow.Author.Rules.{rules}
use lib.Seq.{length-take-le}
use Rattle.check_text.proofs.Ways.{few, loaded}
use Rattle.image.specs.Read.{read_into}
use Rattle.lines.proofs.Chain.{as-text, both}
use Rattle.table.specs.Table.{check}
use Rattle.table_shown.specs.Show.{show}
use Rattle.table_text.proofs.Ways.{in-front, shown-sound, shown-refused}
use Rattle.table_text.proofs.show.Goals as goal

pub overflow_mul-table : goal.overflow_mul-table
overflow_mul-table c =
    let a = c.args in record { fits = omega (arith, few a.image.now _ (sym c.read-q.ensures.answer ∙ c.in-Ok.is)) }

pub slice_bounds-table-end : goal.slice_bounds-table-end
slice_bounds-table-end c =
    let a = c.args in omega (arith, few a.image.now _ (sym c.read-q.ensures.answer ∙ c.in-Ok.is), c.read-q.auto.room)

pub slice_bounds-show-end-in-Ok : goal.slice_bounds-show-end-in-Ok
slice_bounds-show-end-in-Ok c =
    sym (length-take-le _ _ (let a = c.args in omega (arith, few a.image.now _ (sym c.read-q.ensures.answer ∙ c.in-Ok.is), c.read-q.auto.room)))

pub show-requires : goal.show-requires
show-requires c =
    let a = c.args in let h = sym c.read-q.ensures.answer ∙ c.in-Ok.is in record
    { table_value = ap check (in-front a.image.now _ h _ _ (c.read-q.ensures.memory ∙ ap (λ x. read_into x a.image.now _) c.in-Ok.is)) ∙ loaded a.image.now _ h; in_bounds = search rules }

pub returns-in-Ok : goal.returns-in-Ok
returns-in-Ok c =
    let a = c.args in let h = sym c.read-q.ensures.answer ∙ c.in-Ok.is in let r = both (as-text
    (ap show (in-front a.image.now _ h _ _ (c.read-q.ensures.memory ∙ ap (λ x. read_into x a.image.now _) c.in-Ok.is)) ∙ shown-sound a.image.now _ h)
    c.show.ensures) in record { text = r.0; counts = r.1 }

pub returns-in-Err : goal.returns-in-Err
returns-in-Err c =
    let a = c.args in let r = both (as-text (shown-refused a.image.now _ (sym c.read-q.ensures.answer ∙ c.in-Err.is)) c.put_explained.ensures) in record { text = r.0; counts = r.1 }
