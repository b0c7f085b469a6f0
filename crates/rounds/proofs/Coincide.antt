-- Two answers that meet a contract of this crate coincide.
use mathlib.Core.Path.{sym, ◌∙◌}
use Rattle.ground.specs.Coincide.{Answers}
use Rattle.rounds.proofs.in_largest.Kinds as in-largest-kinds
use Rattle.rounds.proofs.in_largest.Reads as in-largest-reads
use Rattle.rounds.proofs.largest.Kinds as largest-kinds
use Rattle.rounds.proofs.largest.Reads as largest-reads
use Rattle.rounds.proofs.largest_set.Kinds as largest-set-kinds
use Rattle.rounds.proofs.largest_set.Reads as largest-set-reads

pub largest-coincide : Answers largest-kinds.ps largest-kinds.r largest-reads.Post
largest-coincide κs a x y s t p q = λ i. record { set = (p.0 ∙ sym q.0) i; rounds = (p.1 ∙ sym q.1) i }

pub largest-set-coincide : Answers largest-set-kinds.ps largest-set-kinds.r largest-set-reads.Post
largest-set-coincide κs a x y s t p q = p ∙ sym q

pub in-largest-coincide : Answers in-largest-kinds.ps in-largest-kinds.r in-largest-reads.Post
in-largest-coincide κs a x y s t p q = p ∙ sym q
