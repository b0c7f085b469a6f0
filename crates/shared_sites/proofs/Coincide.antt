-- Two answers that meet a contract of this crate coincide.
use mathlib.Core.Path.{sym, ◌∙◌}
use Rattle.ground.specs.Coincide.{Answers}
use Rattle.shared_sites.proofs.beside.Kinds as beside-kinds
use Rattle.shared_sites.proofs.beside.Reads as beside-reads
use Rattle.shared_sites.proofs.first_apart.Kinds as first-apart-kinds
use Rattle.shared_sites.proofs.first_apart.Reads as first-apart-reads
use Rattle.shared_sites.proofs.two_apart.Kinds as two-apart-kinds
use Rattle.shared_sites.proofs.two_apart.Reads as two-apart-reads

pub beside-coincide : Answers beside-kinds.ps beside-kinds.r beside-reads.Post
beside-coincide κs a x y s t p q = p ∙ sym q

pub first-apart-coincide : Answers first-apart-kinds.ps first-apart-kinds.r first-apart-reads.Post
first-apart-coincide κs a x y s t p q = p ∙ sym q

pub two-apart-coincide : Answers two-apart-kinds.ps two-apart-kinds.r two-apart-reads.Post
two-apart-coincide κs a x y s t p q = λ i. record { first = (p.0 ∙ sym q.0) i; second = (p.1 ∙ sym q.1) i }
