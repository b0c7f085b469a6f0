-- Two results that meet a contract of this crate coincide: the answer, and the lent room at exit.
use Prim.Native.Nat.{ℕ}
use mathlib.Core.List.{List}
use mathlib.Core.Path.{refl, sym, ◌∙◌}
use Rattle.ground.specs.Coincide.{All, Answers}
use Rattle.threshold_image.proofs.check.Kinds as check-kinds
use Rattle.threshold_image.proofs.check.Reads as check-reads
use Rattle.threshold_image.proofs.load.Kinds as load-kinds
use Rattle.threshold_image.proofs.load.Reads as load-reads

pub check-coincide : Answers check-kinds.ps check-kinds.r check-reads.Post
check-coincide κs a x y s t p q = p ∙ sym q

pub load-coincide : All load-kinds.ps load-kinds.r (List ℕ) (λ κs s. s.1.1.0.now) load-reads.Post
load-coincide κs a x y s t p q = (refl, p ∙ sym q)
