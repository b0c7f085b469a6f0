-- Two results that meet a contract of this crate coincide.
use mathlib.Core.Path.{sym, ◌∙◌}
use Rattle.ground.specs.Coincide.{Answers}
use Rattle.journal_next.proofs.next_at.Kinds as next-at-kinds
use Rattle.journal_next.proofs.next_at.Reads as next-at-reads

pub next-at-coincide : Answers next-at-kinds.ps next-at-kinds.r next-at-reads.Post
next-at-coincide κs a x y s t p q = p ∙ sym q
