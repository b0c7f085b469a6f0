-- Two results that meet a contract of this crate coincide: the number answered, and the four cells of `out`.
use Prim.Native.Nat.{ℕ}
use mathlib.Core.List.{List}
use mathlib.Core.Path.{sym, ◌∙◌}
use Rattle.ground.specs.Coincide.{All}
use Rattle.said.proofs.check.Kinds as check-kinds
use Rattle.said.proofs.check.Reads as check-reads
use Rattle.said.proofs.number.Kinds as number-kinds
use Rattle.said.proofs.number.Reads as number-reads

pub check-coincide : All check-kinds.ps check-kinds.r (List ℕ) (λ κs s. s.1.0.now) check-reads.Post
check-coincide κs a x y s t p q = (p.0 ∙ sym q.0, p.1 ∙ sym q.1)

pub number-coincide : All number-kinds.ps number-kinds.r (List ℕ) (λ κs s. s.1.0.now) number-reads.Post
number-coincide κs a x y s t p q = (p.0 ∙ sym q.0, p.1 ∙ sym q.1)
