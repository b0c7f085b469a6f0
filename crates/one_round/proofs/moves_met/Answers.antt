-- `moves_met` meets its contract: if w meets the root, w is held.
use mathlib.Core.Path.{sym, ◌∙◌}
use native.Mathlib.Omega.{arith}
use Rattle.one_round.proofs.Places.{held_more}
use Rattle.one_round.proofs.moves_met.Goals as goal

pub returns-then-has_met : goal.returns-then-has_met
returns-then-has_met c =
    let a = c.args in let h = sym c.has_met.ensures ∙ c.if-has_met.true in record { value = sym h; slices_held_2 = held_more a.table.now a.n a.w (omega (arith, c.requires.rows.few-sites, c.requires.v_lt_n)) h c.requires.slices_held }

pub returns : goal.returns
returns c =
    record { value = sym (sym c.has_met.ensures ∙ c.if-has_met.false); slices_held_2 = c.requires.slices_held }
