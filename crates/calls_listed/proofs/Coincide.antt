-- Two results that meet the contract of this crate coincide: the answers, and the lent room at exit.
use Prim.Native.Nat.{ℕ}
use mathlib.Core.List.{List}
use Rattle.calls_listed.proofs.list.Kinds as list-kinds
use Rattle.calls_listed.proofs.list.Reads as list-reads
use Rattle.ground.specs.Coincide.{All}
use Rattle.text.proofs.Written.{once}

pub list-coincide : All list-kinds.ps list-kinds.r (List ℕ) (λ κs s. s.1.0.now) list-reads.Post
list-coincide κs a x y s t p q = once p.0 q.0
