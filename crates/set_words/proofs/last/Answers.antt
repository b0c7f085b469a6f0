-- `last` meets its contract: it is below as many zeros.
use native.Mathlib.Omega.{arith}
use borrow.Author.Rules.{rules}
use Rattle.set_words.proofs.Ends.{leading-few, last-is}
use Rattle.set_words.proofs.last.Goals as goal

pub overflow_sub-result : goal.overflow_sub-result
overflow_sub-result c =
    omega (arith, leading-few c.args.word c.requires (search rules))

pub returns : goal.returns
returns c =
    rw c.from.ensures (last-is c.args.word c.requires (search rules))
