-- Two results that meet the contract of this crate coincide: the answers, and the lent room at exit.
use Prim.Native.Nat.{ℕ}
use mathlib.Core.List.{List}
use Rattle.ground.specs.Coincide.{All}
use Rattle.outcome.proofs.put_run.Kinds as put-run-kinds
use Rattle.outcome.proofs.put_run.Reads as put-run-reads
use Rattle.text.proofs.Written.{once}

pub put-run-coincide : All put-run-kinds.ps put-run-kinds.r (List ℕ) (λ κs s. s.0.now) put-run-reads.Post
put-run-coincide κs a x y s t p q = once p q
