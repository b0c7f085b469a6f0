-- Two answers that meet a contract of this crate coincide.
use mathlib.Core.Path.{sym, ◌∙◌}
use Rattle.ground.specs.Coincide.{Answers}
use Rattle.threshold_block.proofs.check_block.Kinds as check-block-kinds
use Rattle.threshold_block.proofs.check_block.Reads as check-block-reads

pub check-block-coincide : Answers check-block-kinds.ps check-block-kinds.r check-block-reads.Post
check-block-coincide κs a x y s t p q = p ∙ sym q
