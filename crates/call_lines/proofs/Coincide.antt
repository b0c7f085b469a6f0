-- Two results that meet the contract of this crate coincide: the answers, and the lent room at exit.
use Prim.Native.Nat.{ℕ}
use mathlib.Core.List.{List}
use Rattle.call_lines.proofs.put_call.Kinds as put-call-kinds
use Rattle.call_lines.proofs.put_call.Reads as put-call-reads
use Rattle.ground.specs.Coincide.{All}
use Rattle.text.proofs.Written.{once}

pub put-call-coincide : All put-call-kinds.ps put-call-kinds.r (List ℕ) (λ κs s. s.0.now) put-call-reads.Post
put-call-coincide κs a x y s t p q = once p q
