-- Two results that meet the contract of this crate coincide: the answers, and the lent room at exit.
use Prim.Native.Nat.{ℕ}
use mathlib.Core.List.{List}
use Rattle.ground.specs.Coincide.{All}
use Rattle.same_text.proofs.same.Kinds as same-kinds
use Rattle.same_text.proofs.same.Reads as same_Reads
use Rattle.text.proofs.Written.{once}

pub same-coincide : All same-kinds.ps same-kinds.r (List ℕ) (λ κs s. s.1.1.0.now) same_Reads.Post
same-coincide κs a x y s t p q = once p.0 q.0
