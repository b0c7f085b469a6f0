-- Two answers that meet a contract of this crate coincide.
use mathlib.Core.Path.{sym, ◌∙◌}
use Rattle.ground.specs.Coincide.{Answers}
use Rattle.faulty_sites.proofs.faulty_typed.Kinds as faulty-typed-kinds
use Rattle.faulty_sites.proofs.faulty_typed.Reads as faulty-typed-reads

pub faulty-typed-coincide : Answers faulty-typed-kinds.ps faulty-typed-kinds.r faulty-typed-reads.Post
faulty-typed-coincide κs a x y s t p q = p ∙ sym q
