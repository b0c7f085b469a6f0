-- Two answers that meet the contract of `is_unsound` coincide.
use mathlib.Core.Path.{sym, ◌∙◌}
use Rattle.ground.specs.Coincide.{Answers}
use Rattle.soundness.proofs.is_unsound.Kinds as is-unsound-kinds
use Rattle.soundness.proofs.is_unsound.Reads as is-unsound-reads

pub is-unsound-coincide : Answers is-unsound-kinds.ps is-unsound-kinds.r is-unsound-reads.Post
is-unsound-coincide κs a x y s t p q = p ∙ sym q
