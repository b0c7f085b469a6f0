-- Two results that meet the contract of this crate coincide: the answers, and the lent room at exit.
use Prim.Native.Nat.{ℕ}
use mathlib.Core.List.{List}
use Rattle.ground.specs.Coincide.{All}
use Rattle.state_lines.proofs.put_state.Kinds as put-state-kinds
use Rattle.state_lines.proofs.put_state.Reads as put-state-reads
use Rattle.text.proofs.Written.{once}

pub put-state-coincide : All put-state-kinds.ps put-state-kinds.r (List ℕ) (λ κs s. s.0.now) put-state-reads.Post
put-state-coincide κs a x y s t p q = once p q
