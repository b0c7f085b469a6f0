-- `goes` meets its contract: a row of sets is asked for its root and has no place, any other for its slices.
use mathlib.Core.Path.{sym, ◌∙◌}
use Rattle.one_round.proofs.Places.{placed-none}
use Rattle.one_round.proofs.goes.Goals as goal

pub goes_unmet-requires : goal.goes_unmet-requires
goes_unmet-requires c =
    let p = c.requires in record { rows = p.rows; v_lt_n = p.v_lt_n; v_value = sym c.of_sets.ensures ∙ c.if-of_sets.true }

pub returns-then-of_sets : goal.returns-then-of_sets
returns-then-of_sets c =
    record { value = c.goes_unmet.ensures; placed = placed-none c.args.table.now c.requires.places_len (sym c.of_sets.ensures ∙ c.if-of_sets.true) }

pub goes_listed-requires : goal.goes_listed-requires
goes_listed-requires c =
    let l = c.requires.rows.listed c.args.v c.requires.v_lt_n (sym c.of_sets.ensures ∙ c.if-of_sets.false) in record { rows = c.requires.rows; v_lt_n = c.requires.v_lt_n; listed_row = l; places_len = c.requires.places_len }
