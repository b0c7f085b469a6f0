-- Two answers that meet a contract of this crate coincide.
use mathlib.Core.Path.{sym, ◌∙◌}
use Rattle.ground.specs.Coincide.{Answers}
use Rattle.risk_search.proofs.first_ruin.Kinds as first-ruin-kinds
use Rattle.risk_search.proofs.first_ruin.Reads as first-ruin-reads
use Rattle.risk_search.proofs.taken_along.Kinds as taken-along-kinds
use Rattle.risk_search.proofs.taken_along.Reads as taken-along-reads

pub taken-along-coincide : Answers taken-along-kinds.ps taken-along-kinds.r taken-along-reads.Post
taken-along-coincide κs a x y s t p q = p ∙ sym q

pub first-ruin-coincide : Answers first-ruin-kinds.ps first-ruin-kinds.r first-ruin-reads.Post
first-ruin-coincide κs a x y s t p q = p ∙ sym q
