-- Two answers that meet the contract of `first` coincide.
use mathlib.Core.Path.{sym, ◌∙◌}
use Rattle.ground.specs.Coincide.{Answers}
use Rattle.early_quorums.proofs.first.Kinds as first-kinds
use Rattle.early_quorums.proofs.first.Reads as first_reads

pub first-coincide : Answers first-kinds.ps first-kinds.r first_reads.Post
first-coincide κs a x y s t p q = p ∙ sym q
