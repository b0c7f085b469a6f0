-- Two results that meet a contract of this crate coincide: the answers, the state and the answer room at exit.
use Rattle.refusals.specs.Check.{Answer}
use Prim.Native.Nat.{ℕ}
use mathlib.Core.List.{List}
use mathlib.Core.Path.{sym, ap, ◌∙◌}
use Rattle.ground.specs.Coincide.{Answers, All}
use Rattle.run.specs.Run.{state_into, answers_into}
use Rattle.sets.specs.Groups.{thresholds}
use Rattle.threshold_votes.proofs.run.Kinds as run-kinds
use Rattle.threshold_votes.proofs.run.Reads as run-reads
use Rattle.threshold_votes.proofs.sound.Kinds as sound-kinds
use Rattle.threshold_votes.proofs.sound.Reads as sound-reads
use Rattle.threshold_votes.proofs.step.Kinds as step-kinds
use Rattle.threshold_votes.proofs.step.Reads as step-reads

pub sound-coincide : Answers sound-kinds.ps sound-kinds.r sound-reads.Post
sound-coincide κs a x y s t p q = p ∙ sym q

pub step-coincide : All step-kinds.ps step-kinds.r (List ℕ) (λ κs s. s.1.1.0.now) step-reads.Post
step-coincide κs a x y s t p q = (p.0 ∙ sym q.0, p.1 ∙ sym q.1)

pub run-states-coincide : All run-kinds.ps run-kinds.r (List ℕ) (λ κs s. s.1.1.1.0.now) run-reads.Post
run-states-coincide κs a x y s t p q =
    let e = p.0 ∙ sym q.0 in
    (e, p.1.0 ∙ ap (λ (r : Answer ℕ). state_into r (thresholds a.0.now) a.1.0 a.1.1.0.now a.1.1.1.0.now) e ∙ sym q.1.0)

pub run-answers-coincide : All run-kinds.ps run-kinds.r (List ℕ) (λ κs s. s.1.1.1.1.0.now) run-reads.Post
run-answers-coincide κs a x y s t p q =
    let e = p.0 ∙ sym q.0 in
    (e, p.1.1 ∙ ap (λ (r : Answer ℕ). answers_into r (thresholds a.0.now) a.1.0 a.1.1.0.now a.1.1.1.1.0.now) e ∙ sym q.1.1)
