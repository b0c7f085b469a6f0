-- `verdict` meets its contract: the refusal of the image, or the verdict on its table.
use Prim.Native.Nat.{◌*◌}
use mathlib.Core.Path.{sym, ap, ◌∙◌}
use native.Mathlib.Omega.{arith}
use borrow.Author.Rules.{rules}
use lib.ListN.{take}
use lib.Seq.{length-take-le}
use Rattle.image.specs.Read.{read_into}
use Rattle.lines.proofs.Chain.{as-text, both}
use Rattle.check_text.proofs.Ways.{few}
use Rattle.verdict_text.proofs.Ways.{verdict-judged, verdict-refused}
use Rattle.verdict_text.proofs.verdict.Goals as goal

pub overflow_mul-table : goal.overflow_mul-table
overflow_mul-table c =
    record { fits = omega (arith, few c.args.image.now _ (sym c.read-q.ensures.answer ∙ c.in-Ok.is)) }

pub slice_bounds-table-end : goal.slice_bounds-table-end
slice_bounds-table-end c =
    omega (arith, few c.args.image.now _ (sym c.read-q.ensures.answer ∙ c.in-Ok.is), c.read-q.auto.room)

pub slice_bounds-judge-end : goal.slice_bounds-judge-end
slice_bounds-judge-end c =
    sym (length-take-le _ _ ((omega (arith, few c.args.image.now _ (sym c.read-q.ensures.answer ∙ c.in-Ok.is), c.read-q.auto.room))))

pub judge-requires : goal.judge-requires
judge-requires c =
    record {
      in_bounds = search rules;
      table_len = length-take-le _ _ ((omega (arith, few c.args.image.now _ (sym c.read-q.ensures.answer ∙ c.in-Ok.is), c.read-q.auto.room)));
      sites_bound = few
          c.args.image.now _ (sym c.read-q.ensures.answer ∙ c.in-Ok.is);
    }

pub returns-in-Ok : goal.returns-in-Ok
returns-in-Ok c =
    let r = both (as-text
    (verdict-judged c.args.image.now c.args.faulty c.in-Ok.n _ _ (sym c.read-q.ensures.answer ∙ c.in-Ok.is)
    (ap (take (63 * c.in-Ok.n)) (c.read-q.ensures.memory ∙ ap (λ x. read_into x c.args.image.now _) c.in-Ok.is)))
    c.judge.ensures) in record { text = r.0; counts = r.1 }

pub returns-in-Err : goal.returns-in-Err
returns-in-Err c =
    let r = both (as-text (verdict-refused c.args.image.now c.args.faulty _ (sym c.read-q.ensures.answer ∙ c.in-Err.is)) c.put_refused.ensures) in record { text = r.0; counts = r.1 }
