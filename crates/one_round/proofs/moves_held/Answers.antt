-- `moves_held` meets its contract: a row of sets is asked for its root, any other for its slices.
use mathlib.Core.Path.{sym, ◌∙◌}
use Rattle.one_round.proofs.moves_held.Goals as goal

pub moves_met-requires : goal.moves_met-requires
moves_met-requires c =
    let p = c.requires in record { rows = p.rows; v_lt_n = p.v_lt_n; v_value = sym c.of_sets.ensures ∙ c.if-of_sets.true; slices_held = p.slices_held }
