-- Two answers that meet a contract of this crate coincide.
use mathlib.Core.Path.{sym, ◌∙◌}
use Rattle.ground.specs.Coincide.{Answers}
use Rattle.asking.proofs.belongs.Kinds as belongs-kinds
use Rattle.asking.proofs.belongs.Reads as belongs-reads
use Rattle.asking.proofs.blocked.Kinds as blocked-kinds
use Rattle.asking.proofs.blocked.Reads as blocked-reads
use Rattle.asking.proofs.has_slice.Kinds as has-slice-kinds
use Rattle.asking.proofs.has_slice.Reads as has-slice-reads
use Rattle.asking.proofs.in_quorum.Kinds as in-quorum-kinds
use Rattle.asking.proofs.in_quorum.Reads as in-quorum-reads

pub in-quorum-coincide : Answers in-quorum-kinds.ps in-quorum-kinds.r in-quorum-reads.Post
in-quorum-coincide κs a x y s t p q = p ∙ sym q

pub blocked-coincide : Answers blocked-kinds.ps blocked-kinds.r blocked-reads.Post
blocked-coincide κs a x y s t p q = p ∙ sym q

pub has-slice-coincide : Answers has-slice-kinds.ps has-slice-kinds.r has-slice-reads.Post
has-slice-coincide κs a x y s t p q = p ∙ sym q

-- of the set that is kept the contract says what is known of it
pub belongs-coincide : Answers belongs-kinds.ps belongs-kinds.r belongs-reads.Post
belongs-coincide κs a x y s t p q = p.0 ∙ sym q.0
