-- `risk` meets its contract: the refusal of the image, or the risk of its table.
use Prim.Native.Nat.{◌*◌}
use mathlib.Core.Path.{sym, ap, ◌∙◌}
use native.Mathlib.Omega.{arith}
use lib.ListN.{take}
use lib.Seq.{length-take-le}
use Rattle.image.specs.Read.{read_into}
use Rattle.lines.proofs.Chain.{as-text, both}
use Rattle.check_text.proofs.Ways.{few}
use Rattle.risk_text.proofs.Ways.{risk-refused, risk-taken}
use Rattle.risk_text.proofs.risk.Goals as goal

pub overflow_mul-table : goal.overflow_mul-table
overflow_mul-table c =
    record { fits = omega (arith, few c.args.image.now _ (sym c.read-q.ensures.answer ∙ c.in-Ok.is)) }

pub slice_bounds-table-end : goal.slice_bounds-table-end
slice_bounds-table-end c =
    omega (arith, few c.args.image.now _ (sym c.read-q.ensures.answer ∙ c.in-Ok.is), c.read-q.auto.room)

pub slice_bounds-risk_read-end : goal.slice_bounds-risk_read-end
slice_bounds-risk_read-end c =
    sym (length-take-le _ _ ((omega (arith, few c.args.image.now _ (sym c.read-q.ensures.answer ∙ c.in-Ok.is), c.read-q.auto.room))))

pub returns-in-Ok : goal.returns-in-Ok
returns-in-Ok c =
    let a = c.args in let r = both (as-text
    (risk-taken a.image.now c.in-Ok.n _ _ (sym c.read-q.ensures.answer ∙ c.in-Ok.is)
    (ap (take (63 * c.in-Ok.n)) (c.read-q.ensures.memory ∙ ap (λ x. read_into x a.image.now _) c.in-Ok.is)))
    c.risk_read.ensures) in record { text = r.0; counts = r.1 }

pub returns-in-Err : goal.returns-in-Err
returns-in-Err c =
    let r = both (as-text (risk-refused c.args.image.now _ (sym c.read-q.ensures.answer ∙ c.in-Err.is)) c.put_explained.ensures) in record { text = r.0; counts = r.1 }
