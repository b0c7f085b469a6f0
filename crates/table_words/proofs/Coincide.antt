-- Two answers that meet a contract of this crate coincide.
use mathlib.Core.Path.{sym, ◌∙◌}
use Rattle.ground.specs.Coincide.{Answers}
use Rattle.table_words.proofs.sign_of.Kinds as sign-of-kinds
use Rattle.table_words.proofs.sign_of.Reads as sign-of-reads
use Rattle.table_words.proofs.turn.Kinds as turn-kinds
use Rattle.table_words.proofs.turn.Reads as turn-reads
use Rattle.table_words.proofs.ended.Kinds as ended-kinds
use Rattle.table_words.proofs.ended.Reads as ended-reads
use Rattle.table_words.proofs.said.Kinds as said-kinds
use Rattle.table_words.proofs.said.Reads as said-reads
use Rattle.table_words.proofs.closing.Kinds as closing-kinds
use Rattle.table_words.proofs.closing.Reads as closing-reads
use Rattle.table_words.proofs.stopped.Kinds as stopped-kinds
use Rattle.table_words.proofs.stopped.Reads as stopped-reads

pub sign-of-coincide : Answers sign-of-kinds.ps sign-of-kinds.r sign-of-reads.Post
sign-of-coincide κs a x y s t p q = p ∙ sym q

pub turn-coincide : Answers turn-kinds.ps turn-kinds.r turn-reads.Post
turn-coincide κs a x y s t p q = p ∙ sym q

pub ended-coincide : Answers ended-kinds.ps ended-kinds.r ended-reads.Post
ended-coincide κs a x y s t p q = p ∙ sym q

pub said-coincide : Answers said-kinds.ps said-kinds.r said-reads.Post
said-coincide κs a x y s t p q = p ∙ sym q

pub closing-coincide : Answers closing-kinds.ps closing-kinds.r closing-reads.Post
closing-coincide κs a x y s t p q = p ∙ sym q

pub stopped-coincide : Answers stopped-kinds.ps stopped-kinds.r stopped-reads.Post
stopped-coincide κs a x y s t p q = p ∙ sym q
