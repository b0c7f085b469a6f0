-- `first` meets its contract: the zeros below the lowest bit say which set it stands for.
use Prim.Native.Nat.{◌^◌, ◌<◌}
use mathlib.Core.Path.{ap, ◌∙◌}
use lib.Count.{count_trailing_zeros}
use borrow.Author.Rules.{rules}
use Rattle.early_quorums.proofs.EarlyLaws.{first-is}
use Rattle.early_quorums.proofs.first.Goals as goal

pub returns : goal.returns
returns c =
    let fits : c.held.result < 2 ^ 64 = search rules in
    c.from.ensures ∙ ap (count_trailing_zeros 64) c.minus.ensures ∙ first-is c.requires c.held.ensures fits
