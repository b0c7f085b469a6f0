-- Two answers that meet the contract of `is_vain` coincide.
use mathlib.Core.Path.{sym, ◌∙◌}
use Rattle.ground.specs.Coincide.{Answers}
use Rattle.vain.proofs.is_vain.Kinds as is-vain-kinds
use Rattle.vain.proofs.is_vain.Reads as is-vain-reads

pub is-vain-coincide : Answers is-vain-kinds.ps is-vain-kinds.r is-vain-reads.Post
is-vain-coincide κs a x y s t p q = p ∙ sym q
