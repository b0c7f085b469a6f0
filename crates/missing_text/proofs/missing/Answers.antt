-- `missing` meets its contract: the refusal of the image, or what the list lacks on its table.
use Prim.Native.Nat.{◌*◌}
use mathlib.Core.Path.{sym, ap, ◌∙◌}
use native.Mathlib.Omega.{arith}
use borrow.Author.Rules.{rules}
use lib.ListN.{take}
use lib.Seq.{length-take-le}
use Rattle.image.specs.Read.{read_into}
use Rattle.lines.proofs.Chain.{as-text, both}
use Rattle.missing_text.proofs.Ways.{image-taken, image-stopped}
use Rattle.check_text.proofs.Ways.{few}
use Rattle.missing_text.proofs.missing.Goals as goal

pub overflow_mul-table : goal.overflow_mul-table
overflow_mul-table c =
    let a = c.args in record { fits = omega (arith, few a.image.now _ (sym c.read-q.ensures.answer ∙ c.in-Ok.is)) }

pub slice_bounds-table-end : goal.slice_bounds-table-end
slice_bounds-table-end c =
    let a = c.args in omega (arith, few a.image.now _ (sym c.read-q.ensures.answer ∙ c.in-Ok.is), c.read-q.auto.room)

pub slice_bounds-missing_read-end : goal.slice_bounds-missing_read-end
slice_bounds-missing_read-end c =
    sym (length-take-le _ _ ((let a = c.args in omega (arith, few a.image.now _ (sym c.read-q.ensures.answer ∙ c.in-Ok.is), c.read-q.auto.room))))

pub missing_read-requires : goal.missing_read-requires
missing_read-requires c =
    record { in_bounds = search rules; table_len = length-take-le _ _ ((let a = c.args in omega (arith, few a.image.now _ (sym c.read-q.ensures.answer ∙ c.in-Ok.is), c.read-q.auto.room))) }

pub returns-in-Ok : goal.returns-in-Ok
returns-in-Ok c =
    let a = c.args in let r = both (as-text
    (image-taken a.faulty a.image.now a.list.now c.in-Ok.n _ _ (sym c.read-q.ensures.answer ∙ c.in-Ok.is)
    (ap (take (63 * c.in-Ok.n)) (c.read-q.ensures.memory ∙ ap (λ x. read_into x a.image.now _) c.in-Ok.is)))
    c.missing_read.ensures) in record { text = r.0; counts = r.1 }

pub returns-in-Err : goal.returns-in-Err
returns-in-Err c =
    let a = c.args in let r = both (as-text (image-stopped a.faulty a.image.now a.list.now _ (sym c.read-q.ensures.answer ∙ c.in-Err.is)) c.put_explained.ensures) in record { text = r.0; counts = r.1 }
