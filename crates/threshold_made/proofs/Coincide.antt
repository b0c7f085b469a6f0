-- Two results that meet the contract of this crate coincide: the answers, and the lent room at exit.
use Prim.Native.Nat.{ℕ}
use mathlib.Core.List.{List}
use mathlib.Core.Path.{sym, ◌∙◌}
use Rattle.ground.specs.Coincide.{All}
use Rattle.threshold_made.proofs.make.Kinds as make-kinds
use Rattle.threshold_made.proofs.make.Reads as make-reads

pub make-coincide : All make-kinds.ps make-kinds.r (List ℕ) (λ κs s. s.1.0.now) make-reads.Post
make-coincide κs a x y s t p q = (p.0 ∙ sym q.0, p.1 ∙ sym q.1)
