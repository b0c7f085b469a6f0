-- Two results that meet the contract of `work`, or of `change`, coincide: the answer, whether the state changed, and the state at exit.
use Prim.Native.Nat.{ℕ}
use mathlib.Core.List.{List}
use mathlib.Core.Path.{sym, ◌∙◌}
use Rattle.ground.specs.Coincide.{All}
use Rattle.taking.proofs.change.Kinds as change-kinds
use Rattle.taking.proofs.change.Reads as change-reads
use Rattle.taking.proofs.work.Kinds as work-kinds
use Rattle.taking.proofs.work.Reads as work-reads

pub work-coincide : All work-kinds.ps work-kinds.r (List ℕ) (λ κs s. s.1.1.1.0.now) work-reads.Post
work-coincide κs a x y s t p q = (
  λ i. record { answer = (p.answers-so ∙ sym q.answers-so) i; changed = (p.changes ∙ sym q.changes) i },
  p.state ∙ sym q.state,
)

-- of what is kept from one call to the next the contract says what it knows
pub change-coincide : All change-kinds.ps change-kinds.r (List ℕ) (λ κs s. s.1.1.1.0.now) change-reads.Post
change-coincide κs a x y s t p q = (p.0.changes ∙ sym q.0.changes, p.0.state ∙ sym q.0.state)
