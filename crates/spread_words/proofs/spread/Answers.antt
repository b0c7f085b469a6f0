-- `spread` meets its contract: first the words beside each other, then every eighth word.
use Rattle.spread_words.proofs.Joining.{spread-both}
use Rattle.spread_words.proofs.spread.Goals as goal

pub returns : goal.returns
returns c =
    spread-both c.near.ensures c.far.ensures
