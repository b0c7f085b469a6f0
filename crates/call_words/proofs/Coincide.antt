-- Two results that meet a contract of this crate coincide.
use mathlib.Core.Path.{sym, ◌∙◌}
use Rattle.ground.specs.Coincide.{Answers}
use Rattle.call_words.proofs.meant.Kinds as meant-kinds
use Rattle.call_words.proofs.meant.Reads as meant-reads
use Rattle.call_words.proofs.hear.Kinds as hear-kinds
use Rattle.call_words.proofs.hear.Reads as hear-reads
use Rattle.call_words.proofs.closed.Kinds as closed-kinds
use Rattle.call_words.proofs.closed.Reads as closed-reads

pub meant-coincide : Answers meant-kinds.ps meant-kinds.r meant-reads.Post
meant-coincide κs a x y s t p q = p ∙ sym q

pub hear-coincide : Answers hear-kinds.ps hear-kinds.r hear-reads.Post
hear-coincide κs a x y s t p q = p ∙ sym q

pub closed-coincide : Answers closed-kinds.ps closed-kinds.r closed-reads.Post
closed-coincide κs a x y s t p q = p ∙ sym q
