-- Two answers that meet a contract of this crate coincide.
use mathlib.Core.Path.{sym, ◌∙◌}
use Rattle.ground.specs.Coincide.{Answers}
use Rattle.threshold_grammar.proofs.doing.Kinds as doing-kinds
use Rattle.threshold_grammar.proofs.doing.Reads as doing-reads
use Rattle.threshold_grammar.proofs.at.Kinds as at-kinds
use Rattle.threshold_grammar.proofs.at.Reads as at_reads
use Rattle.threshold_grammar.proofs.outside.Kinds as outside-kinds
use Rattle.threshold_grammar.proofs.outside.Reads as outside-reads
use Rattle.threshold_grammar.proofs.own.Kinds as own-kinds
use Rattle.threshold_grammar.proofs.own.Reads as own-reads
use Rattle.threshold_grammar.proofs.expected.Kinds as expected-kinds
use Rattle.threshold_grammar.proofs.expected.Reads as expected-reads
use Rattle.threshold_grammar.proofs.missed.Kinds as missed-kinds
use Rattle.threshold_grammar.proofs.missed.Reads as missed-reads
use Rattle.threshold_grammar.proofs.onward.Kinds as onward-kinds
use Rattle.threshold_grammar.proofs.onward.Reads as onward-reads
use Rattle.threshold_grammar.proofs.many.Kinds as many-kinds
use Rattle.threshold_grammar.proofs.many.Reads as many-reads
use Rattle.threshold_grammar.proofs.owner.Kinds as owner-kinds
use Rattle.threshold_grammar.proofs.owner.Reads as owner-reads
use Rattle.threshold_grammar.proofs.sited.Kinds as sited-kinds
use Rattle.threshold_grammar.proofs.sited.Reads as sited-reads
use Rattle.threshold_grammar.proofs.linked.Kinds as linked-kinds
use Rattle.threshold_grammar.proofs.linked.Reads as linked-reads
use Rattle.threshold_grammar.proofs.coloned.Kinds as coloned-kinds
use Rattle.threshold_grammar.proofs.coloned.Reads as coloned-reads

pub doing-coincide : Answers doing-kinds.ps doing-kinds.r doing-reads.Post
doing-coincide κs a x y s t p q = p ∙ sym q

pub at-coincide : Answers at-kinds.ps at-kinds.r at_reads.Post
at-coincide κs a x y s t p q = p ∙ sym q

pub outside-coincide : Answers outside-kinds.ps outside-kinds.r outside-reads.Post
outside-coincide κs a x y s t p q = p ∙ sym q

pub own-coincide : Answers own-kinds.ps own-kinds.r own-reads.Post
own-coincide κs a x y s t p q = p ∙ sym q

pub expected-coincide : Answers expected-kinds.ps expected-kinds.r expected-reads.Post
expected-coincide κs a x y s t p q = p ∙ sym q

pub missed-coincide : Answers missed-kinds.ps missed-kinds.r missed-reads.Post
missed-coincide κs a x y s t p q = p ∙ sym q

pub onward-coincide : Answers onward-kinds.ps onward-kinds.r onward-reads.Post
onward-coincide κs a x y s t p q = p ∙ sym q

pub many-coincide : Answers many-kinds.ps many-kinds.r many-reads.Post
many-coincide κs a x y s t p q = p ∙ sym q

pub owner-coincide : Answers owner-kinds.ps owner-kinds.r owner-reads.Post
owner-coincide κs a x y s t p q = p ∙ sym q

pub sited-coincide : Answers sited-kinds.ps sited-kinds.r sited-reads.Post
sited-coincide κs a x y s t p q = p ∙ sym q

pub linked-coincide : Answers linked-kinds.ps linked-kinds.r linked-reads.Post
linked-coincide κs a x y s t p q = p ∙ sym q

pub coloned-coincide : Answers coloned-kinds.ps coloned-kinds.r coloned-reads.Post
coloned-coincide κs a x y s t p q = p ∙ sym q
