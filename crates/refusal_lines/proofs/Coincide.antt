-- Two results that meet a contract of this crate coincide: the answers, and the lent room at exit.
use Prim.Native.Nat.{ℕ}
use mathlib.Core.List.{List}
use Rattle.ground.specs.Coincide.{All}
use Rattle.refusal_lines.proofs.put_explained.Kinds as put-explained-kinds
use Rattle.refusal_lines.proofs.put_explained.Reads as put-explained-reads
use Rattle.refusal_lines.proofs.put_refused.Kinds as put-refused-kinds
use Rattle.refusal_lines.proofs.put_refused.Reads as put-refused-reads
use Rattle.text.proofs.Written.{once}

pub put-refused-coincide : All put-refused-kinds.ps put-refused-kinds.r (List ℕ) (λ κs s. s.0.now) put-refused-reads.Post
put-refused-coincide κs a x y s t p q = once p q

pub put-explained-coincide : All put-explained-kinds.ps put-explained-kinds.r (List ℕ) (λ κs s. s.0.now) put-explained-reads.Post
put-explained-coincide κs a x y s t p q = once p q
