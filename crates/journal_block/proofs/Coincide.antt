-- Two results that meet a contract of this crate coincide.
use mathlib.Core.Path.{sym, ◌∙◌}
use Rattle.ground.specs.Coincide.{Answers}
use Rattle.journal_block.proofs.calls_in.Kinds as calls-in-kinds
use Rattle.journal_block.proofs.calls_in.Reads as calls-in-reads
use Rattle.journal_block.proofs.check_block.Kinds as check-block-kinds
use Rattle.journal_block.proofs.check_block.Reads as check-block-reads

pub calls-in-coincide : Answers calls-in-kinds.ps calls-in-kinds.r calls-in-reads.Post
calls-in-coincide κs a x y s t p q = p ∙ sym q

pub check-block-coincide : Answers check-block-kinds.ps check-block-kinds.r check-block-reads.Post
check-block-coincide κs a x y s t p q = p ∙ sym q
