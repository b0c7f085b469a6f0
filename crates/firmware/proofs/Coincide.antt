-- Two answers that meet a contract of this crate coincide.
use mathlib.Core.Path.{sym, ◌∙◌}
use Rattle.ground.specs.Coincide.{Answers}
use Rattle.firmware.proofs.siren_block_check.Kinds as siren-block-check-kinds
use Rattle.firmware.proofs.siren_block_check.Reads as siren-block-check-reads
use Rattle.firmware.proofs.siren_site_mark.Kinds as siren-site-mark-kinds
use Rattle.firmware.proofs.siren_site_mark.Reads as siren-site-mark-reads

pub siren-block-check-coincide : Answers siren-block-check-kinds.ps siren-block-check-kinds.r siren-block-check-reads.Post
siren-block-check-coincide κs a x y s t p q = p ∙ sym q

pub siren-site-mark-coincide : Answers siren-site-mark-kinds.ps siren-site-mark-kinds.r siren-site-mark-reads.Post
siren-site-mark-coincide κs a x y s t p q = p ∙ sym q
