-- `first_member` meets its contract: the zeros below the lowest member say which it is.
use Prim.Native.Nat.{◌^◌, ◌<◌}
use mathlib.Core.Path.{refl}
use lib.Count.{trailing_le}
use borrow.Author.Rules.{rules}
use Rattle.masks.proofs.Laws.First.{first_member}
use Rattle.one_round.proofs.first_member.Goals as goal

pub overflow_cast-result : goal.overflow_cast-result
overflow_cast-result c =
    let l = trailing_le 64 c.args.m in search rules

pub returns : goal.returns
returns c =
    let h : c.args.m < 2 ^ 64 = search rules in (refl, first_member 64 c.args.m c.requires h)
