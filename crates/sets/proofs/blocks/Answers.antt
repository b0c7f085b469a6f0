-- `blocks` meets its contract: a row of sets is asked for its root, any other for its slices.
use mathlib.Core.Path.{sym, ◌∙◌}
use Rattle.sets.proofs.blocks.Goals as goal

pub blocks_unmet-requires : goal.blocks_unmet-requires
blocks_unmet-requires c =
    let p = c.requires in record { rows = p.rows; v_lt_n = p.v_lt_n; v_value = sym c.of_sets.ensures ∙ c.if-of_sets.true }

pub blocks_listed-requires : goal.blocks_listed-requires
blocks_listed-requires c =
    record { rows = c.requires.rows; v_lt_n = c.requires.v_lt_n; listed_row = c.requires.rows.listed c.args.v c.requires.v_lt_n (sym c.of_sets.ensures ∙ c.if-of_sets.false) }
