-- Two answers that meet a contract of this crate coincide.
use mathlib.Core.Path.{sym, ◌∙◌}
use Rattle.ground.specs.Coincide.{Answers}
use Rattle.table_grammar.proofs.at.Kinds as at-kinds
use Rattle.table_grammar.proofs.at.Reads as at_reads
use Rattle.table_grammar.proofs.own.Kinds as own-kinds
use Rattle.table_grammar.proofs.own.Reads as own-reads
use Rattle.table_grammar.proofs.expected.Kinds as expected-kinds
use Rattle.table_grammar.proofs.expected.Reads as expected-reads
use Rattle.table_grammar.proofs.spoken.Kinds as spoken-kinds
use Rattle.table_grammar.proofs.spoken.Reads as spoken-reads

pub at-coincide : Answers at-kinds.ps at-kinds.r at_reads.Post
at-coincide κs a x y s t p q = p ∙ sym q

pub own-coincide : Answers own-kinds.ps own-kinds.r own-reads.Post
own-coincide κs a x y s t p q = p ∙ sym q

pub expected-coincide : Answers expected-kinds.ps expected-kinds.r expected-reads.Post
expected-coincide κs a x y s t p q = p ∙ sym q

pub spoken-coincide : Answers spoken-kinds.ps spoken-kinds.r spoken-reads.Post
spoken-coincide κs a x y s t p q = p ∙ sym q
