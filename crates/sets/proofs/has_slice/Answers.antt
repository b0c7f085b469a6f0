-- `has_slice` meets its contract: a row of sets is asked for its root, any other for its slices.
use mathlib.Core.Path.{sym, ◌∙◌}
use Rattle.sets.proofs.has_slice.Goals as goal

pub has_met-requires : goal.has_met-requires
has_met-requires c =
    let p = c.requires in record { rows = p.rows; v_lt_n = p.v_lt_n; v_value = sym c.of_sets.ensures ∙ c.if-of_sets.true }

pub has_listed-requires : goal.has_listed-requires
has_listed-requires c =
    record { rows = c.requires.rows; v_lt_n = c.requires.v_lt_n; listed_row = c.requires.rows.listed c.args.v c.requires.v_lt_n (sym c.of_sets.ensures ∙ c.if-of_sets.false) }
