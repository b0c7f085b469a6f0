-- `now_accepts` meets its contract: nothing changes if the receiver has accepted; else the rule as a set, added to the two places.
use native.Mathlib.Omega.{arith}
use Rattle.rules.proofs.Since.{unaccepted, new-read}
use Rattle.rules.proofs.WorkWays.{accepted-way, accepts-way}
use Rattle.sets.specs.Inner.Rows.{row_questions}
use Rattle.accepting.proofs.now_accepts.Goals as goal

pub returns-then-has : goal.returns-then-has
returns-then-has c =
    let a = c.args in accepted-way (row_questions a.table.now a.n) a.n a.receiver a.side a.state.now c.has.ensures c.if-has.true c.requires.since.own-heard (omega arith)

pub now_accepting-accepts_now-requires : goal.now_accepting-accepts_now-requires
now_accepting-accepts_now-requires c =
    let s = c.args.state.now in let p = c.requires in let S = p.since in let e = unaccepted S c.has.ensures c.if-has.false c.accepted.ensures in record {
      rows = p.rows;
      sender_lt_n = p.sender_lt_n;
      receiver_lt_n = p.receiver_lt_n;
      accepts_before_value = e;
      new = new-read s c.votes.ensures S.new-votes;
      new_2 = new-read s c.accepts.ensures
          S.new-accepts;
    }

pub returns : goal.returns
returns c =
    let a = c.args in accepts-way (row_questions a.table.now a.n) a.n a.receiver a.side a.state.now c.only-m.ensures
    c.now_accepting-accepts_now.ensures c.put.ensures c.put-2.ensures
    c.votes.ensures c.accepts.ensures (omega arith) (omega arith)
