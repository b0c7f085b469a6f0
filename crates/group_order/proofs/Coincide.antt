-- Two results that meet a contract of this crate coincide: the answers, and the lent row at exit.
use Prim.Native.Nat.{ℕ}
use mathlib.Core.List.{List}
use mathlib.Core.Path.{refl, sym, ◌∙◌}
use Rattle.ground.specs.Coincide.{Answers, All}
use Rattle.group_order.proofs.join.Kinds as join-kinds
use Rattle.group_order.proofs.join.Reads as join-reads
use Rattle.group_order.proofs.known.Kinds as known-kinds
use Rattle.group_order.proofs.known.Reads as known-reads

pub known-coincide : Answers known-kinds.ps known-kinds.r known-reads.Post
known-coincide κs a x y s t p q = p ∙ sym q

pub join-coincide : All join-kinds.ps join-kinds.r (List ℕ) (λ κs s. s.0.now) join-reads.Post
join-coincide κs a x y s t p q = (refl, p ∙ sym q)
