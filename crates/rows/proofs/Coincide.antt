-- Two answers that meet a contract of this crate coincide.
use mathlib.Core.Path.{sym, ◌∙◌}
use Rattle.ground.specs.Coincide.{Answers}
use Rattle.rows.proofs.check_site.Kinds as check-site-kinds
use Rattle.rows.proofs.check_site.Reads as check-site-reads
use Rattle.rows.proofs.check_slice.Kinds as check-slice-kinds
use Rattle.rows.proofs.check_slice.Reads as check-slice-reads
use Rattle.rows.proofs.is_sound.Kinds as is-sound-kinds
use Rattle.rows.proofs.is_sound.Reads as is-sound-reads

pub check-site-coincide : Answers check-site-kinds.ps check-site-kinds.r check-site-reads.Post
check-site-coincide κs a x y s t p q = p ∙ sym q

pub check-slice-coincide : Answers check-slice-kinds.ps check-slice-kinds.r check-slice-reads.Post
check-slice-coincide κs a x y s t p q = p ∙ sym q

pub is-sound-coincide : Answers is-sound-kinds.ps is-sound-kinds.r is-sound-reads.Post
is-sound-coincide κs a x y s t p q = p ∙ sym q
