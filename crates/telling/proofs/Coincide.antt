-- Two results that meet a contract of this crate coincide: the number answered, and the four cells of `out`.
use Prim.Native.Nat.{ℕ}
use mathlib.Core.List.{List}
use mathlib.Core.Path.{sym, ◌∙◌}
use Rattle.ground.specs.Coincide.{All}
use Rattle.telling.proofs.give.Kinds as give-kinds
use Rattle.telling.proofs.give.Reads as give-reads
use Rattle.telling.proofs.refuse.Kinds as refuse-kinds
use Rattle.telling.proofs.refuse.Reads as refuse-reads

pub give-coincide : All give-kinds.ps give-kinds.r (List ℕ) (λ κs s. s.0.now) give-reads.Post
give-coincide κs a x y s t p q = (p.0 ∙ sym q.0, p.1 ∙ sym q.1)

pub refuse-coincide : All refuse-kinds.ps refuse-kinds.r (List ℕ) (λ κs s. s.0.now) refuse-reads.Post
refuse-coincide κs a x y s t p q = (p.0 ∙ sym q.0, p.1 ∙ sym q.1)
