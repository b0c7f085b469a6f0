-- `stays_held` meets its contract: what is held holds a slice, and so does w where that is inside w; where it is not, the row is asked.
use mathlib.Core.Path.{sym, ◌∙◌}
use lib.ListN.{get_or}
use Rattle.masks.proofs.Laws.Subsets.{within-⊆}
use Rattle.sets.proofs.Rows.{row-grows}
use Rattle.one_round.proofs.stays_held.Goals as goal

pub returns-then-within : goal.returns-then-within
returns-then-within c =
    let a = c.args in let held = within-⊆ (get_or a.held.now a.v 0) a.w (sym c.within.ensures ∙ c.if-within.true) in record
    { value = c.if-within.true ∙ sym (row-grows c.requires.rows a.v _ a.w held (c.requires.slices_held.at a.v c.requires.v_lt_n c.requires.v)); places_2 = c.requires.places; slices_held_2 = c.requires.slices_held }
