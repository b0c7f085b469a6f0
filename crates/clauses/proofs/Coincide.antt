-- Two answers that meet a contract of this crate coincide.
use mathlib.Core.Path.{sym, ◌∙◌}
use Rattle.ground.specs.Coincide.{Answers}
use Rattle.clauses.proofs.is_not_own.Kinds as is-not-own-kinds
use Rattle.clauses.proofs.is_not_own.Reads as is-not-own-reads
use Rattle.clauses.proofs.is_not_rule.Kinds as is-not-rule-kinds
use Rattle.clauses.proofs.is_not_rule.Reads as is-not-rule-reads
use Rattle.clauses.proofs.is_not_sent.Kinds as is-not-sent-kinds
use Rattle.clauses.proofs.is_not_sent.Reads as is-not-sent-reads
use Rattle.clauses.proofs.is_not_zero.Kinds as is-not-zero-kinds
use Rattle.clauses.proofs.is_not_zero.Reads as is-not-zero-reads

pub is-not-own-coincide : Answers is-not-own-kinds.ps is-not-own-kinds.r is-not-own-reads.Post
is-not-own-coincide κs a x y s t p q = p ∙ sym q

pub is-not-sent-coincide : Answers is-not-sent-kinds.ps is-not-sent-kinds.r is-not-sent-reads.Post
is-not-sent-coincide κs a x y s t p q = p ∙ sym q

pub is-not-zero-coincide : Answers is-not-zero-kinds.ps is-not-zero-kinds.r is-not-zero-reads.Post
is-not-zero-coincide κs a x y s t p q = p ∙ sym q

-- of what is kept from one question to the next the contract says what it knows
pub is-not-rule-coincide : Answers is-not-rule-kinds.ps is-not-rule-kinds.r is-not-rule-reads.Post
is-not-rule-coincide κs a x y s t p q = p.0 ∙ sym q.0
