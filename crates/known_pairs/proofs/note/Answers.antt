-- `note` meets its contract: the other pairs stay.
use Prim.Native.Nat.{◌+◌, ◌%◌}
use native.Mathlib.Omega.{arith}
use lib.ListN.{get_or}
use Rattle.sets.specs.Inner.Rows.{rules_of}
use Rattle.known_pairs.proofs.PairLaws.{pairs-more}
use Rattle.known_pairs.proofs.note.Goals as goal

pub returns : goal.returns
returns c =
    let a = c.args in let count = get_or a.pairs.now 48 0 % 16 in
    pairs-more (rules_of a.table.now) a.n a.pairs.now count a.gone a.p a.q (count + 1) (omega arith) c.requires.pair c.requires.pairs
