-- Two results that meet a contract of this crate coincide: the answers, and the lent room at exit.
use Prim.Native.Nat.{ℕ}
use mathlib.Core.List.{List}
use Rattle.ground.specs.Coincide.{All}
use Rattle.same_lines.proofs.put_boths.Kinds as put-boths-kinds
use Rattle.same_lines.proofs.put_boths.Reads as put-boths-reads
use Rattle.same_lines.proofs.put_lacks.Kinds as put-lacks-kinds
use Rattle.same_lines.proofs.put_lacks.Reads as put-lacks-reads
use Rattle.text.proofs.Written.{once}

pub put-lacks-coincide : All put-lacks-kinds.ps put-lacks-kinds.r (List ℕ) (λ κs s. s.0.now) put-lacks-reads.Post
put-lacks-coincide κs a x y s t p q = once p q

pub put-boths-coincide : All put-boths-kinds.ps put-boths-kinds.r (List ℕ) (λ κs s. s.0.now) put-boths-reads.Post
put-boths-coincide κs a x y s t p q = once p q
