-- `now_accepting` meets its contract: blocked now, or else by a quorum now.
use Rattle.rules.proofs.Since.{unblocked-then, no-quorum-then, new-either}
use Rattle.rules.proofs.WorkWays.{accepts-by-blocking, accepts-by-quorum}
use Rattle.sets.specs.Inner.Rows.{row_questions}
use Rattle.asking_since.proofs.now_accepting.Goals as goal

pub now_blocked-requires : goal.now_blocked-requires
now_blocked-requires c =
    let a = c.args in let p = c.requires in let e = unblocked-then (row_questions a.table.now a.n) a.receiver a.votes_before a.accepts_before p.accepts_before_value c.single-own.ensures
    c.minus-before.ensures in record { rows = p.rows; receiver_lt_n = p.receiver_lt_n; before_value = e }

pub returns-then-now_blocked : goal.returns-then-now_blocked
returns-then-now_blocked c =
    let a = c.args in accepts-by-blocking (row_questions a.table.now a.n) a.receiver a.votes a.accepts c.single-own.ensures
    c.minus-others.ensures c.now_blocked.ensures c.if-now_blocked.true

pub now_in_quorum-requires : goal.now_in_quorum-requires
now_in_quorum-requires c =
    let a = c.args in let p = c.requires in let own = c.single-own in let before = c.minus-before.ensures in let e = no-quorum-then (row_questions a.table.now a.n) a.receiver a.votes_before
    a.accepts_before p.accepts_before_value c.single-own.ensures c.minus-before.ensures in record {
      rows = p.rows;
      sender_lt_n = p.sender_lt_n;
      receiver_lt_n = p.receiver_lt_n;
      before_value = e;
      new = new-either p.new p.new_2 c.single-own.result c.minus-before.ensures
          c.minus-others.ensures;
    }

pub returns : goal.returns
returns c =
    let a = c.args in accepts-by-quorum (row_questions a.table.now a.n) a.receiver a.votes a.accepts c.single-own.ensures
    c.minus-others.ensures c.now_blocked.ensures c.if-now_blocked.false c.now_in_quorum.ensures
