-- Two answers that meet a contract of this crate coincide.
use mathlib.Core.Path.{sym, ◌∙◌}
use Rattle.ground.specs.Coincide.{Answers}
use Rattle.masks.proofs.has.Kinds as has-kinds
use Rattle.masks.proofs.has.Reads as has-reads
use Rattle.masks.proofs.single.Kinds as single-kinds
use Rattle.masks.proofs.single.Reads as single-Reads
use Rattle.masks.proofs.within.Kinds as within-kinds
use Rattle.masks.proofs.within.Reads as within-reads
use Rattle.masks.proofs.minus.Kinds as minus-kinds
use Rattle.masks.proofs.minus.Reads as minus-reads
use Rattle.masks.proofs.all_below.Kinds as all-below-kinds
use Rattle.masks.proofs.all_below.Reads as all-below-reads
use Rattle.masks.proofs.size.Kinds as size-kinds
use Rattle.masks.proofs.size.Reads as size-reads

pub has-coincide : Answers has-kinds.ps has-kinds.r has-reads.Post
has-coincide κs a x y s t p q = p ∙ sym q

pub single-coincide : Answers single-kinds.ps single-kinds.r single-Reads.Post
single-coincide κs a x y s t p q = p ∙ sym q

pub within-coincide : Answers within-kinds.ps within-kinds.r within-reads.Post
within-coincide κs a x y s t p q = p ∙ sym q

pub minus-coincide : Answers minus-kinds.ps minus-kinds.r minus-reads.Post
minus-coincide κs a x y s t p q = p ∙ sym q

pub all-below-coincide : Answers all-below-kinds.ps all-below-kinds.r all-below-reads.Post
all-below-coincide κs a x y s t p q = p ∙ sym q

pub size-coincide : Answers size-kinds.ps size-kinds.r size-reads.Post
size-coincide κs a x y s t p q = p ∙ sym q
