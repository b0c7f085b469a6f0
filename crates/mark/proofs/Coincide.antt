-- Two answers that meet a contract of this crate coincide.
use mathlib.Core.Path.{sym, ◌∙◌}
use Rattle.ground.specs.Coincide.{Answers}
use Rattle.mark.proofs.mark.Kinds as mark-kinds
use Rattle.mark.proofs.mark.Reads as mark-reads

pub mark-coincide : Answers mark-kinds.ps mark-kinds.r mark-reads.Post
mark-coincide κs a x y s t p q = p ∙ sym q
