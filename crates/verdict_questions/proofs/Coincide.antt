-- Two answers that meet a contract of this crate coincide.
use mathlib.Core.Path.{sym, ◌∙◌}
use Rattle.ground.specs.Coincide.{Answers}
use Rattle.verdict_questions.proofs.intact.Kinds as intact-kinds
use Rattle.verdict_questions.proofs.intact.Reads as intact-reads
use Rattle.verdict_questions.proofs.intact_of.Kinds as intact-of-kinds
use Rattle.verdict_questions.proofs.intact_of.Reads as intact-of-reads
use Rattle.verdict_questions.proofs.shared.Kinds as shared-kinds
use Rattle.verdict_questions.proofs.shared.Reads as shared-reads
use Rattle.verdict_questions.proofs.shared_of.Kinds as shared-of-kinds
use Rattle.verdict_questions.proofs.shared_of.Reads as shared-of-reads

pub shared-coincide : Answers shared-kinds.ps shared-kinds.r shared-reads.Post
shared-coincide κs a x y s t p q = p ∙ sym q

pub intact-coincide : Answers intact-kinds.ps intact-kinds.r intact-reads.Post
intact-coincide κs a x y s t p q = p ∙ sym q

pub shared-of-coincide : Answers shared-of-kinds.ps shared-of-kinds.r shared-of-reads.Post
shared-of-coincide κs a x y s t p q = p ∙ sym q

pub intact-of-coincide : Answers intact-of-kinds.ps intact-of-kinds.r intact-of-reads.Post
intact-of-coincide κs a x y s t p q = p ∙ sym q
