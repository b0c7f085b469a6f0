-- `same` meets its contract: one law for each way out.
use borrow.Author.Rules.{rules}
use lib.ListN.{length}
use mathlib.Core.Path.{sym, ◌∙◌}
use native.Mathlib.Omega.{arith}
use Rattle.lines.proofs.Chain.{as-text, both}
use Rattle.same_text.proofs.Ways.{first-refused, second-refused, compared, short-list, length-answer}
use Rattle.text.proofs.Written.{then}
use Rattle.same_text.proofs.same.Goals as goal

pub returns-then-misshapen : goal.returns-then-misshapen
returns-then-misshapen c =
    let a = c.args in let r = both (as-text (first-refused a.a.now a.b.now (sym c.misshapen.ensures ∙ c.if-misshapen.true)) c.put_refusal.ensures) in record { text = r.0; counts = r.1 }

pub returns-then-misshapen-2 : goal.returns-then-misshapen-2
returns-then-misshapen-2 c =
    let a = c.args in let r = both (as-text (second-refused a.a.now a.b.now (sym c.misshapen.ensures ∙ c.if-misshapen.false) (sym c.misshapen-2.ensures ∙ c.if-misshapen-2.true))
    c.put_refusal-then-misshapen-2.ensures) in record { text = r.0; counts = r.1 }

pub put_answer-at-requires : goal.put_answer-at-requires
put_answer-at-requires c =
    let a = c.args in record {
      in_bounds = search rules;
      a_len_bound = short-list (length a.a.now) (sym c.misshapen.ensures ∙ c.if-misshapen.false);
      b_len_bound = short-list (length a.b.now) (sym
          c.misshapen-2.ensures ∙ c.if-misshapen-2.false);
    }

pub put_boths-requires : goal.put_boths-requires
put_boths-requires c =
    let a = c.args in omega (
      arith,
      length-answer a.a.now a.b.now (short-list (length a.a.now) (sym c.misshapen.ensures ∙ c.if-misshapen.false)) (short-list (length a.b.now) (sym
          c.misshapen-2.ensures ∙ c.if-misshapen-2.false)),
    )

pub returns : goal.returns
returns c =
    let a = c.args in let r = both (as-text (compared a.a.now a.b.now (sym c.misshapen.ensures ∙ c.if-misshapen.false) (sym c.misshapen-2.ensures ∙ c.if-misshapen-2.false))
    (then c.put_answer-at.ensures c.put_boths.ensures (omega arith))) in record { text = r.0; counts = r.1 }
