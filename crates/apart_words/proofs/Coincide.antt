-- Two answers that meet the contract of `first_apart` coincide. What it leaves is settled for every set (`Says`).
use mathlib.Core.Path.{sym, ◌∙◌}
use Rattle.ground.specs.Coincide.{Answers}
use Rattle.apart_words.proofs.first_apart.Kinds as first-apart-kinds
use Rattle.apart_words.proofs.first_apart.Reads as first-apart-reads

pub first-apart-coincide : Answers first-apart-kinds.ps first-apart-kinds.r first-apart-reads.Post
first-apart-coincide κs a x y s t p q = p.0 ∙ sym q.0
