-- Two results that meet the contract of this crate coincide: the answers, and the lent room at exit.
use Prim.Native.Nat.{ℕ}
use mathlib.Core.List.{List}
use Rattle.ground.specs.Coincide.{All}
use Rattle.missing_lines.proofs.put_lacking.Kinds as put-lacking-kinds
use Rattle.missing_lines.proofs.put_lacking.Reads as put-lacking-reads
use Rattle.missing_lines.proofs.put_side.Kinds as put-side-kinds
use Rattle.missing_lines.proofs.put_side.Reads as put-side-reads
use Rattle.text.proofs.Written.{once}

pub put-side-coincide : All put-side-kinds.ps put-side-kinds.r (List ℕ) (λ κs s. s.0.now) put-side-reads.Post
put-side-coincide κs a x y s t p q = once p q

pub put-lacking-coincide : All put-lacking-kinds.ps put-lacking-kinds.r (List ℕ) (λ κs s. s.0.now) put-lacking-reads.Post
put-lacking-coincide κs a x y s t p q = once p q
