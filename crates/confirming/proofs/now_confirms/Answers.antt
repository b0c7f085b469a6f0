-- `now_confirms` meets its contract: nothing changes if the receiver has confirmed; else the rule as a set, added to the confirmed.
use native.Mathlib.Omega.{arith}
use Rattle.rules.proofs.Since.{unconfirmed, new-read}
use Rattle.rules.proofs.WorkWays.{confirmed-way, confirms-way}
use Rattle.sets.specs.Inner.Rows.{row_questions}
use Rattle.confirming.proofs.now_confirms.Goals as goal

pub returns-then-has : goal.returns-then-has
returns-then-has c =
    let a = c.args in confirmed-way (row_questions a.table.now a.n) a.n a.receiver a.side a.state.now c.has.ensures c.if-has.true (omega arith)

pub now_in_quorum-confirms-requires : goal.now_in_quorum-confirms-requires
now_in_quorum-confirms-requires c =
    let a = c.args in let p = c.requires in let e = unconfirmed (row_questions a.table.now a.n) a.n a.receiver a.side a.accepts_before a.state.now p.receiver
    c.has.ensures c.if-has.false (omega arith) in record { rows = p.rows; sender_lt_n = p.sender_lt_n; receiver_lt_n = p.receiver_lt_n; before_value = e; new = new-read a.state.now c.accepts.ensures p.new }

pub returns : goal.returns
returns c =
    let a = c.args in confirms-way (row_questions a.table.now a.n) a.n a.receiver a.side a.state.now c.only-m.ensures
    c.now_in_quorum-confirms.ensures c.put.ensures c.accepts.ensures (omega arith)
