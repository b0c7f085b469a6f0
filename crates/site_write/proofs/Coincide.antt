-- Two results that meet the contract of `store_block` coincide: what the lent block holds at exit.
use Prim.Native.Nat.{ℕ}
use mathlib.Core.List.{List}
use mathlib.Core.Path.{refl, sym, ◌∙◌}
use Rattle.ground.specs.Coincide.{All}
use Rattle.site_write.proofs.store_block.Kinds as store-block-kinds
use Rattle.site_write.proofs.store_block.Reads as store-block-reads

pub store-block-coincide : All store-block-kinds.ps store-block-kinds.r (List ℕ) (λ κs s. s.1.1.1.0.now) store-block-reads.Post
store-block-coincide κs a x y s t p q = (refl, p ∙ sym q)
