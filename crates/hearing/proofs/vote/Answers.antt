-- `vote` meets its contract: the two places that a proposal adds to.
use native.Mathlib.Omega.{arith}
use Rattle.rules.proofs.WorkWays.{votes-way}
use Rattle.hearing.proofs.vote.Goals as goal

pub returns : goal.returns
returns c =
    let a = c.args in votes-way a.n a.v a.side a.state.now c.single-m.ensures
    c.put.ensures c.put-2.ensures (omega arith) (omega arith)
