-- Two results that meet the contract of this crate coincide: the answers, and the lent room at exit.
use Prim.Native.Nat.{ℕ}
use mathlib.Core.List.{List}
use mathlib.Core.Path.{sym, ◌∙◌}
use Rattle.ground.specs.Coincide.{All}
use Rattle.table_reading.proofs.walk.Kinds as walk-kinds
use Rattle.table_reading.proofs.walk.Reads as walk-reads

pub walk-coincide : All walk-kinds.ps walk-kinds.r (List ℕ) (λ κs s. s.1.0.now) walk-reads.Post
walk-coincide κs a x y s t p q = (p.0 ∙ sym q.0, p.1 ∙ sym q.1)
