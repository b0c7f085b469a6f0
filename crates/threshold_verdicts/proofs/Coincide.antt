-- Two answers that meet a contract of this crate coincide.
use mathlib.Core.Path.{sym, ◌∙◌}
use Rattle.ground.specs.Coincide.{Answers}
use Rattle.threshold_verdicts.proofs.intact.Kinds as intact-kinds
use Rattle.threshold_verdicts.proofs.intact.Reads as intact-reads
use Rattle.threshold_verdicts.proofs.shared.Kinds as shared-kinds
use Rattle.threshold_verdicts.proofs.shared.Reads as shared-reads

pub shared-coincide : Answers shared-kinds.ps shared-kinds.r shared-reads.Post
shared-coincide κs a x y s t p q = p ∙ sym q

pub intact-coincide : Answers intact-kinds.ps intact-kinds.r intact-reads.Post
intact-coincide κs a x y s t p q = p ∙ sym q
