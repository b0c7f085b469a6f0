-- Two answers that meet a contract of this crate coincide.
use mathlib.Core.Path.{sym, ◌∙◌}
use Rattle.ground.specs.Coincide.{Answers}
use Rattle.threshold_nesting.proofs.spoken.Kinds as spoken-kinds
use Rattle.threshold_nesting.proofs.spoken.Reads as spoken-reads

pub spoken-coincide : Answers spoken-kinds.ps spoken-kinds.r spoken-reads.Post
spoken-coincide κs a x y s t p q = p ∙ sym q
