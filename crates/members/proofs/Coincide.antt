-- Two results that meet a contract of this crate coincide: the answers, and the lent room at exit.
use Prim.Native.Nat.{ℕ}
use mathlib.Core.List.{List}
use Rattle.ground.specs.Coincide.{All}
use Rattle.members.proofs.line_members.Kinds as line-members-kinds
use Rattle.members.proofs.line_members.Reads as line-members-reads
use Rattle.members.proofs.put_members.Kinds as put-members-kinds
use Rattle.members.proofs.put_members.Reads as put-members-reads
use Rattle.text.proofs.Written.{once}

pub put-members-coincide : All put-members-kinds.ps put-members-kinds.r (List ℕ) (λ κs s. s.0.now) put-members-reads.Post
put-members-coincide κs a x y s t p q = once p q

pub line-members-coincide : All line-members-kinds.ps line-members-kinds.r (List ℕ) (λ κs s. s.0.now) line-members-reads.Post
line-members-coincide κs a x y s t p q = once p q
