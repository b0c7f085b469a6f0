-- Two answers that meet a contract of this crate coincide.
use mathlib.Core.Path.{sym, ◌∙◌}
use Rattle.ground.specs.Coincide.{Answers}
use Rattle.asking_since.proofs.now_accepting.Kinds as now-accepting-kinds
use Rattle.asking_since.proofs.now_accepting.Reads as now-accepting-reads
use Rattle.asking_since.proofs.now_in_quorum.Kinds as now-in-quorum-kinds
use Rattle.asking_since.proofs.now_in_quorum.Reads as now-in-quorum-reads

pub now-in-quorum-coincide : Answers now-in-quorum-kinds.ps now-in-quorum-kinds.r now-in-quorum-reads.Post
now-in-quorum-coincide κs a x y s t p q = p ∙ sym q

pub now-accepting-coincide : Answers now-accepting-kinds.ps now-accepting-kinds.r now-accepting-reads.Post
now-accepting-coincide κs a x y s t p q = p ∙ sym q
