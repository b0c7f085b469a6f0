-- Two answers that meet the contract of `first_round` coincide, and so of `round_from`. The places are the caller's notes: what they may hold, the contract says. So it is with what a
-- sweep leaves: the contract says between which sets it lies.
use mathlib.Core.Path.{sym, ◌∙◌}
use Rattle.ground.specs.Coincide.{Answers}
use Rattle.one_round.proofs.first_round.Kinds as first-round-kinds
use Rattle.one_round.proofs.first_round.Reads as first-round-reads
use Rattle.one_round.proofs.round_from.Kinds as round-from-kinds
use Rattle.one_round.proofs.round_from.Reads as round-from-reads

pub first-round-coincide : Answers first-round-kinds.ps first-round-kinds.r first-round-reads.Post
first-round-coincide κs a x y s t p q = p.0 ∙ sym q.0

pub round-from-coincide : Answers round-from-kinds.ps round-from-kinds.r round-from-reads.Post
round-from-coincide κs a x y s t p q = p.0 ∙ sym q.0
