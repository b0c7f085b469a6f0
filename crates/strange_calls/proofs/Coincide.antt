-- Two results that meet the contract of this crate coincide.
use mathlib.Core.Path.{sym, ◌∙◌}
use Rattle.ground.specs.Coincide.{Answers}
use Rattle.strange_calls.proofs.mostly_strange.Kinds as mostly-strange-kinds
use Rattle.strange_calls.proofs.mostly_strange.Reads as mostly-strange-reads

pub mostly-strange-coincide : Answers mostly-strange-kinds.ps mostly-strange-kinds.r mostly-strange-reads.Post
mostly-strange-coincide κs a x y s t p q = p ∙ sym q
