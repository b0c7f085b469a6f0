use borrow.Author.Rules.{rules}
use Rattle.masks.proofs.Laws.AllBelow.{minus-not}
use Rattle.masks.proofs.minus.Goals as goal

pub returns : goal.returns
returns c =
    minus-not 64 c.args.a c.args.b (search rules) (search rules)
