-- Two results that meet the contract of `run_fresh` coincide: the number of passes, the state and the answers at exit.
use Prim.Native.Nat.{ℕ}
use mathlib.Core.List.{List}
use mathlib.Core.Path.{sym, ◌∙◌}
use Rattle.ground.specs.Coincide.{All}
use Rattle.passes.proofs.run_fresh.Kinds as run-fresh-kinds
use Rattle.passes.proofs.run_fresh.Reads as run-fresh-reads

pub run-fresh-states-coincide : All run-fresh-kinds.ps run-fresh-kinds.r (List ℕ) (λ κs s. s.1.1.1.1.0.now) run-fresh-reads.Post
run-fresh-states-coincide κs a x y s t p q = (p.count ∙ sym q.count, p.state ∙ sym q.state)

pub run-fresh-answers-coincide : All run-fresh-kinds.ps run-fresh-kinds.r (List ℕ) (λ κs s. s.1.1.1.1.1.0.now) run-fresh-reads.Post
run-fresh-answers-coincide κs a x y s t p q = (p.count ∙ sym q.count, p.answers ∙ sym q.answers)
