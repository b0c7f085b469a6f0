-- Two results that meet the contract of `store_sets` coincide: what the lent block holds at exit.
use Prim.Native.Nat.{ℕ}
use mathlib.Core.List.{List}
use mathlib.Core.Path.{refl, sym, ◌∙◌}
use Rattle.ground.specs.Coincide.{All}
use Rattle.threshold_write.proofs.store_sets.Kinds as store-sets-kinds
use Rattle.threshold_write.proofs.store_sets.Reads as store-sets-reads

pub store-sets-coincide : All store-sets-kinds.ps store-sets-kinds.r (List ℕ) (λ κs s. s.1.1.1.0.now) store-sets-reads.Post
store-sets-coincide κs a x y s t p q = (refl, p ∙ sym q)
