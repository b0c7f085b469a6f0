-- Two answers that meet a contract of this crate coincide.
use mathlib.Core.Path.{sym, ◌∙◌}
use Rattle.ground.specs.Coincide.{Answers}
use Rattle.table.proofs.check.Kinds as check-kinds
use Rattle.table.proofs.check_sites.Kinds as check-sites-kinds
use Rattle.table.proofs.check.Reads as check-reads
use Rattle.table.proofs.check_sites.Reads as check-sites-reads

pub check-sites-coincide : Answers check-sites-kinds.ps check-sites-kinds.r check-sites-reads.Post
check-sites-coincide κs a x y s t p q = p ∙ sym q

pub check-coincide : Answers check-kinds.ps check-kinds.r check-reads.Post
check-coincide κs a x y s t p q = p ∙ sym q
