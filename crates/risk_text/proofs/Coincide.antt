-- Two results that meet a contract of this crate coincide: the answers, and the lent room at exit.
use Prim.Native.Nat.{ℕ}
use mathlib.Core.List.{List}
use Rattle.ground.specs.Coincide.{All}
use Rattle.risk_text.proofs.risk.Kinds as risk-kinds
use Rattle.risk_text.proofs.risk.Reads as risk-reads
use Rattle.text.proofs.Written.{once}

pub risk-coincide : All risk-kinds.ps risk-kinds.r (List ℕ) (λ κs s. s.1.0.now) risk-reads.Post
risk-coincide κs a x y s t p q = once p.0 q.0
