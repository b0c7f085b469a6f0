-- `has_sent` meets its contract: one sum reaches those who voted and those who accepted.
use Rattle.answers.proofs.Sent.{sent-there}
use Rattle.answers.proofs.has_sent.Goals as goal

pub returns : goal.returns
returns c =
    let a = c.args in let p = c.requires in sent-there a.n a.kind a.side a.from a.state.now p.le_kind p.kind_bound c.has.ensures c.sent_at.ensures
