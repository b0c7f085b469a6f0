-- `but_first` meets its contract: one less has the same members above the first, and not the first.
use Prim.Native.Nat.{◌^◌, ◌<◌}
use borrow.Author.Rules.{rules}
use Rattle.masks.proofs.Laws.First.{first_out}
use Rattle.one_round.proofs.but_first.Goals as goal

pub returns : goal.returns
returns c =
    let h : c.args.m < 2 ^ 64 = search rules in first_out 64 c.args.m c.requires h
