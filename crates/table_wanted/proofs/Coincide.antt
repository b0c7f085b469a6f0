-- Two results that meet a contract of this crate coincide: the answers, and the lent room at exit.
use Prim.Native.Nat.{ℕ}
use mathlib.Core.List.{List}
use Rattle.ground.specs.Coincide.{All}
use Rattle.table_wanted.proofs.put_wanted.Kinds as put-wanted-kinds
use Rattle.table_wanted.proofs.put_wanted.Reads as put-wanted-reads
use Rattle.text.proofs.Written.{once}

pub put-wanted-coincide : All put-wanted-kinds.ps put-wanted-kinds.r (List ℕ) (λ κs s. s.0.now) put-wanted-reads.Post
put-wanted-coincide κs a x y s t p q = once p q
