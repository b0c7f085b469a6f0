-- Two results that meet the contract of this crate coincide: the answers, and the lent room at exit.
use Prim.Native.Nat.{ℕ}
use mathlib.Core.List.{List}
use Rattle.ground.specs.Coincide.{All}
use Rattle.text.proofs.Written.{once}
use Rattle.verdict_lines.proofs.put_verdict.Kinds as put-verdict-kinds
use Rattle.verdict_lines.proofs.put_verdict.Reads as put-verdict-reads

pub put-verdict-coincide : All put-verdict-kinds.ps put-verdict-kinds.r (List ℕ) (λ κs s. s.0.now) put-verdict-reads.Post
put-verdict-coincide κs a x y s t p q = once p q
