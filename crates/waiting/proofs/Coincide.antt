-- Two results that meet the contract of `place`, or of `keep`, coincide: the answer, and the places at exit.
use Prim.Native.Nat.{ℕ}
use mathlib.Core.List.{List}
use mathlib.Core.Path.{sym, ◌∙◌}
use Rattle.ground.specs.Coincide.{All, Answers}
use Rattle.waiting.proofs.keep.Kinds as keep-kinds
use Rattle.waiting.proofs.keep.Reads as keep-reads
use Rattle.waiting.proofs.place.Kinds as place-kinds
use Rattle.waiting.proofs.place.Reads as place-reads

pub place-coincide : Answers place-kinds.ps place-kinds.r place-reads.Post
place-coincide κs a x y s t p q = p ∙ sym q

pub keep-coincide : All keep-kinds.ps keep-kinds.r (List ℕ) (λ κs s. s.0.now) keep-reads.Post
keep-coincide κs a x y s t p q = (p.0 ∙ sym q.0, p.1 ∙ sym q.1)
