-- Two answers that meet a contract of this crate coincide.
use mathlib.Core.Path.{sym, ◌∙◌}
use Rattle.ground.specs.Coincide.{Answers}
use Rattle.intact_sites.proofs.intact.Kinds as intact-kinds
use Rattle.intact_sites.proofs.intact.Reads as intact-reads

pub intact-coincide : Answers intact-kinds.ps intact-kinds.r intact-reads.Post
intact-coincide κs a x y s t p q = p ∙ sym q
