-- Two results that meet the contract of `over_all`, or of `work_at`, coincide: the answer, whether the state changed, the state and the answers at exit.
-- Of what is kept from one call to the next the contracts say what they know.
use Prim.Native.Nat.{ℕ}
use mathlib.Core.List.{List}
use mathlib.Core.Path.{sym, ◌∙◌}
use Rattle.ground.specs.Coincide.{All}
use Rattle.pass.proofs.over_all.Kinds as over-all-kinds
use Rattle.pass.proofs.over_all.Reads as over-all-reads
use Rattle.pass.proofs.work_at.Kinds as work-at-kinds
use Rattle.pass.proofs.work_at.Reads as work-at-reads

pub work-at-coincide : All work-at-kinds.ps work-at-kinds.r (List ℕ) (λ κs s. s.1.1.1.1.1.0.now) work-at-reads.Post
work-at-coincide κs a x y s t p q = (
  λ i. record { answer = (p.0.answers-so ∙ sym q.0.answers-so) i; changed = (p.0.changes ∙ sym q.0.changes) i },
  p.0.state ∙ sym q.0.state,
)

pub over-all-states-coincide : All over-all-kinds.ps over-all-kinds.r (List ℕ) (λ κs s. s.1.1.1.1.0.now) over-all-reads.Post
over-all-states-coincide κs a x y s t p q = (p.0.flag ∙ sym q.0.flag, p.0.state ∙ sym q.0.state)

pub over-all-answers-coincide : All over-all-kinds.ps over-all-kinds.r (List ℕ) (λ κs s. s.1.1.1.1.1.0.now) over-all-reads.Post
over-all-answers-coincide κs a x y s t p q = (p.0.flag ∙ sym q.0.flag, p.0.answers ∙ sym q.0.answers)
