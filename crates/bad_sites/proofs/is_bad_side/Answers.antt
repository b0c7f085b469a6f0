-- `is_bad_side` meets its contract: of who has nothing the rules say nothing.
use mathlib.Core.Path.{sym, ◌∙◌}
use Rattle.rules.proofs.Silent.{silent}
use Rattle.rules.proofs.WorkWays.{rows-rests}
use Rattle.rules.proofs.Ways.{zero-read}
use Rattle.bad_sites.proofs.is_bad_side.Goals as goal

pub returns-else-is_not_zero-clause-value : goal.returns-else-is_not_zero-clause-value
returns-else-is_not_zero-clause-value c =
    let a = c.args in
    let nothing = zero-read a.n a.state.now a.v a.side
    (record { at-votes = c.votes.ensures; at-accepts = c.accepts.ensures; at-voted = c.voted.ensures; at-accepted = c.accepted.ensures; at-confirmed = c.confirmed.ensures })
    ∙ sym c.is_not_zero.ensures ∙ c.if-is_not_zero.false in
    c.if-is_not_zero.false ∙ sym (silent (rows-rests c.requires.rows) a.faulty a.state.now a.v a.side c.requires.v_lt_n nothing)
