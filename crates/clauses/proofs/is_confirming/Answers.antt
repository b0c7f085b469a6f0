-- `is_confirming` meets its contract: outside the set, as it was asked last, or asked now.
use mathlib.Core.Path.{sym, ap, ◌∙◌}
use Rattle.sets.proofs.Rows.{rows-promises}
use Rattle.sets.proofs.Without.{outside}
use Rattle.sets.specs.Inner.Rows.{row_questions}
use Rattle.clauses.proofs.is_confirming.Goals as goal

pub returns-then-not-has : goal.returns-then-not-has
returns-then-not-has c =
    let a = c.args in record { value = outside (rows-promises c.requires.rows) a.v a.accepts (sym c.has.ensures ∙ c.if-not-has.true); asked_2 = c.requires.asked }

pub returns-then-accepts-asked : goal.returns-then-accepts-asked
returns-then-accepts-asked c =
    let a = c.args in record {
      value = c.has-then-accepts-asked.ensures ∙ c.requires.asked.known a.v c.requires.v_lt_n
          ∙ ap ((row_questions a.table.now a.n).in_quorum a.v) (sym c.if-accepts-asked.true);
      asked_2 = c.requires.asked;
    }
