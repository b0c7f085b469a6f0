-- Two answers that meet a contract of this crate coincide; of `put`, the state at exit.
use Prim.Native.Nat.{ℕ}
use mathlib.Core.List.{List}
use mathlib.Core.Path.{refl, sym, ◌∙◌}
use Rattle.ground.specs.Coincide.{Answers, All}
use Rattle.places.proofs.accepted.Kinds as accepted-kinds
use Rattle.places.proofs.accepted.Reads as accepted-reads
use Rattle.places.proofs.accepts.Kinds as accepts-kinds
use Rattle.places.proofs.accepts.Reads as accepts-reads
use Rattle.places.proofs.confirmed.Kinds as confirmed-kinds
use Rattle.places.proofs.confirmed.Reads as confirmed-reads
use Rattle.places.proofs.heard_at.Kinds as heard-at-kinds
use Rattle.places.proofs.heard_at.Reads as heard-at-reads
use Rattle.places.proofs.put.Kinds as put-kinds
use Rattle.places.proofs.put.Reads as put_reads
use Rattle.places.proofs.sent_at.Kinds as sent-at-kinds
use Rattle.places.proofs.sent_at.Reads as sent-at-reads
use Rattle.places.proofs.voted.Kinds as voted-kinds
use Rattle.places.proofs.voted.Reads as voted-reads
use Rattle.places.proofs.votes.Kinds as votes-kinds
use Rattle.places.proofs.votes.Reads as votes-reads
use Rattle.places.proofs.width.Kinds as width-kinds
use Rattle.places.proofs.width.Reads as width-reads

pub votes-coincide : Answers votes-kinds.ps votes-kinds.r votes-reads.Post
votes-coincide κs a x y s t p q = p ∙ sym q

pub sent-at-coincide : Answers sent-at-kinds.ps sent-at-kinds.r sent-at-reads.Post
sent-at-coincide κs a x y s t p q = p ∙ sym q

pub heard-at-coincide : Answers heard-at-kinds.ps heard-at-kinds.r heard-at-reads.Post
heard-at-coincide κs a x y s t p q = p ∙ sym q

pub accepts-coincide : Answers accepts-kinds.ps accepts-kinds.r accepts-reads.Post
accepts-coincide κs a x y s t p q = p ∙ sym q

pub voted-coincide : Answers voted-kinds.ps voted-kinds.r voted-reads.Post
voted-coincide κs a x y s t p q = p ∙ sym q

pub accepted-coincide : Answers accepted-kinds.ps accepted-kinds.r accepted-reads.Post
accepted-coincide κs a x y s t p q = p ∙ sym q

pub confirmed-coincide : Answers confirmed-kinds.ps confirmed-kinds.r confirmed-reads.Post
confirmed-coincide κs a x y s t p q = p ∙ sym q

pub width-coincide : Answers width-kinds.ps width-kinds.r width-reads.Post
width-coincide κs a x y s t p q = p ∙ sym q

pub put-coincide : All put-kinds.ps put-kinds.r (List ℕ) (λ κs s. s.0.now) put_reads.Post
put-coincide κs a x y s t p q = (refl, p ∙ sym q)
