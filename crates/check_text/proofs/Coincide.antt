-- Two results that meet a contract of this crate coincide: the answers, and the lent room at exit.
use Prim.Native.Nat.{ℕ}
use mathlib.Core.List.{List}
use Rattle.ground.specs.Coincide.{All}
use Rattle.check_text.proofs.check.Kinds as check-kinds
use Rattle.check_text.proofs.check.Reads as check-reads
use Rattle.text.proofs.Written.{once}

pub check-coincide : All check-kinds.ps check-kinds.r (List ℕ) (λ κs s. s.1.0.now) check-reads.Post
check-coincide κs a x y s t p q = once p.0 q.0
