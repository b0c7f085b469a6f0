-- Two results that meet a contract of this crate coincide: the answer, or the state at exit.
use Prim.Native.Nat.{ℕ}
use mathlib.Core.List.{List}
use mathlib.Core.Path.{refl, sym, ◌∙◌}
use Rattle.ground.specs.Coincide.{All, Answers}
use Rattle.accepting.proofs.now_accepts.Kinds as now-accepts-kinds
use Rattle.accepting.proofs.now_accepts.Reads as now-accepts-reads
use Rattle.accepting.proofs.only.Kinds as only-kinds
use Rattle.accepting.proofs.only.Reads as only-reads

pub only-coincide : Answers only-kinds.ps only-kinds.r only-reads.Post
only-coincide κs a x y s t p q = p ∙ sym q

pub now-accepts-coincide : All now-accepts-kinds.ps now-accepts-kinds.r (List ℕ) (λ κs s. s.1.1.0.now) now-accepts-reads.Post
now-accepts-coincide κs a x y s t p q = (refl, p ∙ sym q)
