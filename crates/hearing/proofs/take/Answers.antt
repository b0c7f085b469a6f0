-- `take` meets its contract: it hears, accepts and confirms; what the receiver knew before the call holds until it is asked.
use Rattle.rules.proofs.Since.{heard-since, worked-since}
use Rattle.rules.proofs.WorkWays.{taken-way}
use Rattle.votes.specs.Call.{call}
use Rattle.sets.specs.Inner.Rows.{row_questions}
use Rattle.hearing.proofs.take.Goals as goal

pub hear-requires : goal.hear-requires
hear-requires c =
    let p = c.requires in record { state_len = p.state_len; n_bound = p.rows.few-sites; in_range = p.in_range }

pub now_accepts-requires : goal.now_accepts-requires
now_accepts-requires c =
    let p = c.requires in let r = p.in_range in let H = heard-since r p.state_len c.votes.ensures
    c.accepts.ensures c.hear.ensures p.since in record { rows = p.rows; state_len = H.0; sender_lt_n = r.from_in; receiver_lt_n = r.to_in; side_bound = r.side-in; since = H.1 }

pub now_confirms-requires : goal.now_confirms-requires
now_confirms-requires c =
    let p = c.requires in let r = p.in_range in let H = heard-since r p.state_len c.votes.ensures
    c.accepts.ensures c.hear.ensures p.since in
    let W = worked-since r.to_in r.side-in H.0 c.now_accepts.ensures H.1 in record
    { rows = p.rows; state_len = W.0; sender_lt_n = r.from_in; receiver_lt_n = r.to_in; side_bound = r.side-in; new = W.1.new-accepts; receiver = W.1.confirmed-then }

pub returns : goal.returns
returns c =
    let a = c.args in taken-way (row_questions a.table.now a.n) a.n (call a.kind a.from a.to a.side) a.state.now
    c.hear.ensures c.now_accepts.ensures c.now_confirms.ensures
