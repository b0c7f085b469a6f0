-- `stays_listed` meets its contract: the slice at its place is one of its slices, and where that is not inside the others are asked.
use mathlib.Core.Path.{sym, ◌∙◌}
use lib.ListN.{get_or}
use Rattle.sets.proofs.Rows.{listed-so, row-found}
use Rattle.one_round.proofs.stays_listed.Goals as goal

pub is_inside-requires : goal.is_inside-requires
is_inside-requires c =
    record { rows = c.requires.rows; v_lt_n = c.requires.v_lt_n; listed_row = c.requires.listed_row; i_bound = (c.requires.places.at c.args.v c.requires.v_lt_n c.requires.v (listed-so c.requires.listed_row)).slice }

pub returns-then-is_inside : goal.returns-then-is_inside
returns-then-is_inside c =
    let a = c.args in let l = (c.requires.places.at a.v c.requires.v_lt_n c.requires.v (listed-so c.requires.listed_row)).slice in record
    { value = c.if-is_inside.true ∙ sym (row-found c.requires.listed_row a.w (get_or a.places.now a.v 0) l (sym c.is_inside.ensures ∙ c.if-is_inside.true)); places_2 = c.requires.places }
