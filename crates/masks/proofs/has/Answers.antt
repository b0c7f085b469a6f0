use borrow.Author.Rules.{rules}
use Rattle.masks.specs.Mask.{has}
use Rattle.masks.proofs.has.Goals as goal

pub returns : goal.returns
unfolding has
returns c =
    search rules
