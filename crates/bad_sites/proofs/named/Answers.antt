-- `named` meets its contract: the six masks at their places.
use Rattle.bad_sites.proofs.SilentLaws.{named-read}
use Rattle.bad_sites.proofs.named.Goals as goal

pub returns : goal.returns
returns c =
    let a = c.args in named-read a.n a.state.now c.voted.ensures c.voted-2.ensures c.accepted.ensures c.accepted-2.ensures
    c.confirmed.ensures c.confirmed-2.ensures
