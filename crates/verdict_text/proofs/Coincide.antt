-- Two results that meet a contract of this crate coincide: the answers, and the lent room at exit.
use Prim.Native.Nat.{ℕ}
use mathlib.Core.List.{List}
use Rattle.ground.specs.Coincide.{All}
use Rattle.verdict_text.proofs.verdict.Kinds as verdict-kinds
use Rattle.verdict_text.proofs.verdict.Reads as verdict-reads
use Rattle.verdict_text.proofs.verdict_on.Kinds as verdict-on-kinds
use Rattle.verdict_text.proofs.verdict_on.Reads as verdict-on-reads
use Rattle.text.proofs.Written.{once}

pub verdict-coincide : All verdict-kinds.ps verdict-kinds.r (List ℕ) (λ κs s. s.1.1.0.now) verdict-reads.Post
verdict-coincide κs a x y s t p q = once p.0 q.0

pub verdict-on-coincide : All verdict-on-kinds.ps verdict-on-kinds.r (List ℕ) (λ κs s. s.1.0.now) verdict-on-reads.Post
verdict-on-coincide κs a x y s t p q = once p.0 q.0
