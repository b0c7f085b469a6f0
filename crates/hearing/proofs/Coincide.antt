-- Two results that meet the contract of `take`, or of `hear`, coincide: the state at exit.
use Prim.Native.Nat.{ℕ}
use mathlib.Core.List.{List}
use mathlib.Core.Path.{refl, sym, ◌∙◌}
use Rattle.ground.specs.Coincide.{All}
use Rattle.hearing.proofs.hear.Kinds as hear-kinds
use Rattle.hearing.proofs.hear.Reads as hear-reads
use Rattle.hearing.proofs.take.Kinds as take-kinds
use Rattle.hearing.proofs.take.Reads as take-reads

pub take-coincide : All take-kinds.ps take-kinds.r (List ℕ) (λ κs s. s.1.1.0.now) take-reads.Post
take-coincide κs a x y s t p q = (refl, p ∙ sym q)

pub hear-coincide : All hear-kinds.ps hear-kinds.r (List ℕ) (λ κs s. s.1.0.now) hear-reads.Post
hear-coincide κs a x y s t p q = (refl, p ∙ sym q)
