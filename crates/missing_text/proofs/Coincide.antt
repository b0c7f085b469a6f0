-- Two results that meet the contract of this crate coincide: the answers, and the lent room at exit.
use Prim.Native.Nat.{ℕ}
use mathlib.Core.List.{List}
use Rattle.ground.specs.Coincide.{All}
use Rattle.missing_text.proofs.missing.Kinds as missing-kinds
use Rattle.missing_text.proofs.missing.Reads as missing-reads
use Rattle.text.proofs.Written.{once}

pub missing-coincide : All missing-kinds.ps missing-kinds.r (List ℕ) (λ κs s. s.1.1.1.0.now) missing-reads.Post
missing-coincide κs a x y s t p q = once p.0 q.0
