-- Two answers that meet a contract of this crate coincide.
use mathlib.Core.Path.{sym, ◌∙◌}
use Rattle.ground.specs.Coincide.{Answers}
use Rattle.answers.proofs.answer.Kinds as answer-kinds
use Rattle.answers.proofs.answer.Reads as answer-reads
use Rattle.answers.proofs.has_sent.Kinds as has-sent-kinds
use Rattle.answers.proofs.has_sent.Reads as has-sent-reads
use Rattle.answers.proofs.is_heard.Kinds as is-heard-kinds
use Rattle.answers.proofs.is_heard.Reads as is-heard-reads

pub answer-coincide : Answers answer-kinds.ps answer-kinds.r answer-reads.Post
answer-coincide κs a x y s t p q = p ∙ sym q

pub has-sent-coincide : Answers has-sent-kinds.ps has-sent-kinds.r has-sent-reads.Post
has-sent-coincide κs a x y s t p q = p ∙ sym q

pub is-heard-coincide : Answers is-heard-kinds.ps is-heard-kinds.r is-heard-reads.Post
is-heard-coincide κs a x y s t p q = p ∙ sym q
