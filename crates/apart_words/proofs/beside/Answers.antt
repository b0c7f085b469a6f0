-- `beside` meets its contract: the first six sites are turned, the others handed on.
use Rattle.apart_words.proofs.Turning.{beside-all}
use Rattle.apart_words.proofs.beside.Goals as goal

pub returns : goal.returns
returns c =
    let a = c.args in beside-all a.b a.sets.now c.turn_all.ensures c.spread.ensures
