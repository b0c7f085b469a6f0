-- Two results that meet a contract of this crate coincide: the state at exit.
use Prim.Native.Nat.{ℕ}
use mathlib.Core.List.{List}
use mathlib.Core.Path.{refl, sym, ◌∙◌}
use Rattle.ground.specs.Coincide.{All}
use Rattle.confirming.proofs.now_confirms.Kinds as now-confirms-kinds
use Rattle.confirming.proofs.now_confirms.Reads as now-confirms-reads

pub now-confirms-coincide : All now-confirms-kinds.ps now-confirms-kinds.r (List ℕ) (λ κs s. s.1.1.0.now) now-confirms-reads.Post
now-confirms-coincide κs a x y s t p q = (refl, p ∙ sym q)
