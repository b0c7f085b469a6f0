-- Two results that meet a contract of this crate coincide.
use mathlib.Core.Path.{sym, ◌∙◌}
use Rattle.ground.specs.Coincide.{Answers}
use Rattle.same_calls.proofs.misshapen.Kinds as misshapen-kinds
use Rattle.same_calls.proofs.misshapen.Reads as misshapen-reads
use Rattle.same_calls.proofs.has_call.Kinds as has-call-kinds
use Rattle.same_calls.proofs.has_call.Reads as has-call-reads
use Rattle.same_calls.proofs.covers.Kinds as covers-kinds
use Rattle.same_calls.proofs.covers.Reads as covers-reads
use Rattle.same_calls.proofs.proposed.Kinds as proposed-kinds
use Rattle.same_calls.proofs.proposed.Reads as proposed-reads
use Rattle.same_calls.proofs.same_lists.Kinds as same-lists-kinds
use Rattle.same_calls.proofs.same_lists.Reads as same-lists-reads

pub same-lists-coincide : Answers same-lists-kinds.ps same-lists-kinds.r same-lists-reads.Post
same-lists-coincide κs a x y s t p q = p ∙ sym q

pub misshapen-coincide : Answers misshapen-kinds.ps misshapen-kinds.r misshapen-reads.Post
misshapen-coincide κs a x y s t p q = p ∙ sym q

pub has-call-coincide : Answers has-call-kinds.ps has-call-kinds.r has-call-reads.Post
has-call-coincide κs a x y s t p q = p ∙ sym q

pub covers-coincide : Answers covers-kinds.ps covers-kinds.r covers-reads.Post
covers-coincide κs a x y s t p q = p ∙ sym q

pub proposed-coincide : Answers proposed-kinds.ps proposed-kinds.r proposed-reads.Post
proposed-coincide κs a x y s t p q = p ∙ sym q
