-- `first_apart` meets its contract: the quorums are left, and the first is looked for that has one beside it.
use native.Mathlib.Nat.{lt_of_lt_of_le}
use lib.ListN.{length-replicate}
use Prim.Native.Nat.{ℕ}
use lib.Pow.{pow_mono}
use Rattle.apart_words.proofs.ApartLaws.{quorums-left}
use Rattle.apart_words.proofs.first_apart.Goals as goal

pub leave-requires : goal.leave-requires
leave-requires c =
    let p = c.requires in record { b_bound = lt_of_lt_of_le p.b_bound (pow_mono p.n_bound); above = p.above; sets_len = p.says.long }

pub beside-requires : goal.beside-requires
beside-requires c =
    length-replicate {A = ℕ} 64 0

pub search-requires : goal.search-requires
search-requires c =
    let p = c.requires in record { rows = p.rows; n_bound = p.n_bound; b_bound = p.b_bound; says = quorums-left p.rows c.args.b p.says c.leave.ensures; beside = c.beside.ensures }

pub returns : goal.returns
returns c =
    let p = c.requires in record { first = c.search.ensures; quorums = quorums-left p.rows c.args.b p.says c.leave.ensures }
