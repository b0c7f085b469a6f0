-- `is_accepting` meets its contract: blocked, or else by a quorum: outside the set, as it was asked last, or asked now.
use mathlib.Core.Path.{sym, ap, ◌∙◌}
use Rattle.rules.proofs.WorkWays.{accepts-by-blocking, accepts-by-quorum}
use Rattle.sets.proofs.Rows.{rows-promises}
use Rattle.sets.proofs.Without.{outside}
use Rattle.sets.specs.Inner.Rows.{row_questions}
use Rattle.clauses.proofs.is_accepting.Goals as goal

pub returns-then-blocked : goal.returns-then-blocked
returns-then-blocked c =
    let a = c.args in let o = c.minus-others in record {
      value = accepts-by-blocking (row_questions a.table.now a.n) a.v a.votes a.accepts c.single.ensures c.minus-others.ensures
          c.blocked.ensures c.if-blocked.true;
      asked_2 = c.requires.asked;
    }

pub returns-then-not-has : goal.returns-then-not-has
returns-then-not-has c =
    let a = c.args in record {
      value = accepts-by-quorum (row_questions a.table.now a.n) a.v a.votes a.accepts c.single.ensures
          c.minus-others.ensures c.blocked.ensures c.if-blocked.false
          (outside (rows-promises c.requires.rows) a.v _ (sym c.has.ensures ∙ c.if-not-has.true));
      asked_2 = c.requires.asked;
    }

pub returns-then-w-asked : goal.returns-then-w-asked
returns-then-w-asked c =
    let a = c.args in let Q = row_questions a.table.now a.n in record {
      value = accepts-by-quorum Q a.v a.votes a.accepts c.single.ensures
          c.minus-others.ensures c.blocked.ensures c.if-blocked.false
          (c.has-then-w-asked.ensures ∙ c.requires.asked.known a.v c.requires.v_lt_n ∙ ap (Q.in_quorum a.v) (sym c.if-w-asked.true));
      asked_2 = c.requires.asked;
    }

pub returns : goal.returns
returns c =
    let a = c.args in let r = c.belongs.ensures in record {
      value = accepts-by-quorum (row_questions a.table.now a.n) a.v a.votes a.accepts c.single.ensures
          c.minus-others.ensures c.blocked.ensures c.if-blocked.false r.value;
      asked_2 = r.asked_2;
    }
