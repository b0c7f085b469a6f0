-- Two answers that meet a contract of this crate coincide.
use mathlib.Core.Path.{sym, ◌∙◌}
use Rattle.ground.specs.Coincide.{Answers}
use Rattle.questions.proofs.blocks.Kinds as blocks-kinds
use Rattle.questions.proofs.blocks.Reads as blocks-reads
use Rattle.questions.proofs.blocks_of.Kinds as blocks-of-kinds
use Rattle.questions.proofs.blocks_of.Reads as blocks-of-reads
use Rattle.questions.proofs.largest.Kinds as largest-kinds
use Rattle.questions.proofs.largest.Reads as largest-reads
use Rattle.questions.proofs.largest_of.Kinds as largest-of-kinds
use Rattle.questions.proofs.largest_of.Reads as largest-of-reads
use Rattle.questions.proofs.quorum.Kinds as quorum-kinds
use Rattle.questions.proofs.quorum.Reads as quorum-reads
use Rattle.questions.proofs.quorum_of.Kinds as quorum-of-kinds
use Rattle.questions.proofs.quorum_of.Reads as quorum-of-reads

pub quorum-coincide : Answers quorum-kinds.ps quorum-kinds.r quorum-reads.Post
quorum-coincide κs a x y s t p q = p ∙ sym q

pub largest-coincide : Answers largest-kinds.ps largest-kinds.r largest-reads.Post
largest-coincide κs a x y s t p q = p ∙ sym q

pub blocks-coincide : Answers blocks-kinds.ps blocks-kinds.r blocks-reads.Post
blocks-coincide κs a x y s t p q = p ∙ sym q

pub quorum-of-coincide : Answers quorum-of-kinds.ps quorum-of-kinds.r quorum-of-reads.Post
quorum-of-coincide κs a x y s t p q = p ∙ sym q

pub largest-of-coincide : Answers largest-of-kinds.ps largest-of-kinds.r largest-of-reads.Post
largest-of-coincide κs a x y s t p q = p ∙ sym q

pub blocks-of-coincide : Answers blocks-of-kinds.ps blocks-of-kinds.r blocks-of-reads.Post
blocks-of-coincide κs a x y s t p q = p ∙ sym q
