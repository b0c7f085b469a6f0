use borrow.Author.Rules.{rules}
use Rattle.masks.specs.Mask.{within}
use Rattle.masks.proofs.within.Goals as goal

pub returns : goal.returns
unfolding within
returns c =
    search rules
