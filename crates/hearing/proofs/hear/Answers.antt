-- `hear` meets its contract: one law for each kind of call.
use native.Mathlib.Omega.{arith}
use Rattle.rules.proofs.WorkWays.{proposal-way, vote-way, accept-way}
use Rattle.hearing.proofs.hear.Goals as goal

pub vote-requires : goal.vote-requires
vote-requires c =
    let p = c.requires in record { state_len = p.state_len; n_bound = p.n_bound; v_lt_n = p.in_range.to_in; side_bound = p.in_range.side-in }

pub returns-then-kind-eq0 : goal.returns-then-kind-eq0
returns-then-kind-eq0 c =
    let a = c.args in proposal-way a.n a.to a.side a.state.now a.kind a.from c.if-kind-eq0.true c.vote.ensures

pub returns-then-kind-eq1 : goal.returns-then-kind-eq1
returns-then-kind-eq1 c =
    let a = c.args in vote-way a.n a.to a.side a.state.now a.kind a.from c.single-m.ensures c.put.ensures
    c.if-kind-eq1.true (omega arith)

pub returns : goal.returns
returns c =
    let a = c.args in accept-way a.n a.to a.side a.state.now a.kind a.from c.single-m.ensures c.put-2.ensures
    c.if-kind-eq0.false c.if-kind-eq1.false (omega arith)
