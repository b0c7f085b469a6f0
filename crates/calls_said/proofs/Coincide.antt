-- Two results that meet a contract of this crate coincide: the answers, and the lent room at exit.
use Prim.Native.Nat.{ℕ}
use mathlib.Core.List.{List}
use Rattle.calls_said.proofs.put_fault.Kinds as put-fault-kinds
use Rattle.calls_said.proofs.put_fault.Reads as put-fault-reads
use Rattle.calls_said.proofs.made.Kinds as made-kinds
use Rattle.calls_said.proofs.made.Reads as made_reads
use Rattle.ground.specs.Coincide.{All}
use Rattle.text.proofs.Written.{once}

pub put-fault-coincide : All put-fault-kinds.ps put-fault-kinds.r (List ℕ) (λ κs s. s.0.now) put-fault-reads.Post
put-fault-coincide κs a x y s t p q = once p q

pub made-coincide : All made-kinds.ps made-kinds.r (List ℕ) (λ κs s. s.1.0.now) made_reads.Post
made-coincide κs a x y s t p q = once p.0 q.0
