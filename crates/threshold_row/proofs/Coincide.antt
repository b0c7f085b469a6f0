-- Two results that meet a contract of this crate coincide: the answer, and the lent row at exit.
use Prim.Native.Nat.{ℕ}
use mathlib.Core.List.{List}
use mathlib.Core.Path.{refl, sym, ◌∙◌}
use Rattle.ground.specs.Coincide.{All, Answers}
use Rattle.threshold_row.proofs.is_met.Kinds as is-met-kinds
use Rattle.threshold_row.proofs.is_met.Reads as is-met-reads
use Rattle.threshold_row.proofs.load_row.Kinds as load-row-kinds
use Rattle.threshold_row.proofs.load_row.Reads as load-row-reads

pub is-met-coincide : Answers is-met-kinds.ps is-met-kinds.r is-met-reads.Post
is-met-coincide κs a x y s t p q = p ∙ sym q

pub load-row-coincide : All load-row-kinds.ps load-row-kinds.r (List ℕ) (λ κs s. s.1.0.now) load-row-reads.Post
load-row-coincide κs a x y s t p q = (refl, p ∙ sym q)
