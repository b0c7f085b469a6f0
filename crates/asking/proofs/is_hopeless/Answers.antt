-- `is_hopeless` meets its contract: the receiver is not in what is left of w.
use Rattle.asking.proofs.KnownLaws.{hopeless-of}
use Rattle.asking.proofs.is_hopeless.Goals as goal

pub returns : goal.returns
returns c =
    let a = c.args in hopeless-of a.known.now a.receiver a.w c.bounded.ensures c.has.ensures
