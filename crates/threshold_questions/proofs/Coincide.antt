-- Two answers that meet a contract of this crate coincide.
use mathlib.Core.Path.{sym, ◌∙◌}
use Rattle.ground.specs.Coincide.{Answers}
use Rattle.threshold_questions.proofs.blocks.Kinds as blocks-kinds
use Rattle.threshold_questions.proofs.blocks.Reads as blocks-reads
use Rattle.threshold_questions.proofs.largest.Kinds as largest-kinds
use Rattle.threshold_questions.proofs.largest.Reads as largest-reads
use Rattle.threshold_questions.proofs.quorum.Kinds as quorum-kinds
use Rattle.threshold_questions.proofs.quorum.Reads as quorum-reads

pub quorum-coincide : Answers quorum-kinds.ps quorum-kinds.r quorum-reads.Post
quorum-coincide κs a x y s t p q = p ∙ sym q

pub largest-coincide : Answers largest-kinds.ps largest-kinds.r largest-reads.Post
largest-coincide κs a x y s t p q = p ∙ sym q

pub blocks-coincide : Answers blocks-kinds.ps blocks-kinds.r blocks-reads.Post
blocks-coincide κs a x y s t p q = p ∙ sym q
