-- `first` meets its contract: it is as many zeros below.
use borrow.Author.Rules.{rules}
use Rattle.set_words.proofs.Ends.{first-is}
use Rattle.set_words.proofs.first.Goals as goal

pub returns : goal.returns
returns c =
    rw c.from.ensures (first-is c.args.word c.requires (search rules))
