-- Two answers that meet a contract of this crate coincide.
use mathlib.Core.Path.{sym, ◌∙◌}
use Rattle.ground.specs.Coincide.{Answers}
use Rattle.refusals.proofs.code.Kinds as code-kinds
use Rattle.refusals.proofs.code.Reads as code_Reads
use Rattle.refusals.proofs.number.Kinds as number-kinds
use Rattle.refusals.proofs.number.Reads as number-reads
use Rattle.refusals.proofs.place.Kinds as place-kinds
use Rattle.refusals.proofs.place.Reads as place-reads

pub number-coincide : Answers number-kinds.ps number-kinds.r number-reads.Post
number-coincide κs a x y s t p q = p ∙ sym q

pub place-coincide : Answers place-kinds.ps place-kinds.r place-reads.Post
place-coincide κs a x y s t p q = p ∙ sym q

pub code-coincide : Answers code-kinds.ps code-kinds.r code_Reads.Post
code-coincide κs a x y s t p q = p ∙ sym q
