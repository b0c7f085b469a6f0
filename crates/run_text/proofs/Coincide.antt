-- Two results that meet a contract of this crate coincide: the answers, and the lent room at exit.
use Prim.Native.Nat.{ℕ}
use mathlib.Core.List.{List}
use Rattle.ground.specs.Coincide.{All}
use Rattle.run_text.proofs.run.Kinds as run-kinds
use Rattle.run_text.proofs.run.Reads as run-reads
use Rattle.text.proofs.Written.{once}

pub run-coincide : All run-kinds.ps run-kinds.r (List ℕ) (λ κs s. s.1.1.1.0.now) run-reads.Post
run-coincide κs a x y s t p q = once p.0 q.0
