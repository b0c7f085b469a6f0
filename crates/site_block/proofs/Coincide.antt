-- Two results that meet a contract of this crate coincide: the answer, or what the lent room holds at exit.
use Prim.Native.Nat.{ℕ}
use mathlib.Core.List.{List}
use mathlib.Core.Path.{refl, sym, ◌∙◌}
use Rattle.ground.specs.Coincide.{All, Answers}
use Rattle.site_block.proofs.check_block.Kinds as check-block-kinds
use Rattle.site_block.proofs.check_block.Reads as check-block-reads
use Rattle.site_block.proofs.load_block.Kinds as load-block-kinds
use Rattle.site_block.proofs.load_block.Reads as load-block-reads

pub check-block-coincide : Answers check-block-kinds.ps check-block-kinds.r check-block-reads.Post
check-block-coincide κs a x y s t p q = p ∙ sym q

pub load-block-coincide : All load-block-kinds.ps load-block-kinds.r (List ℕ) (λ κs s. s.1.0.now) load-block-reads.Post
load-block-coincide κs a x y s t p q = (refl, p ∙ sym q)
