-- Two results that meet a contract of this crate coincide: the answer, the state room and the answer room.
use Rattle.refusals.specs.Check.{Answer}
use Prim.Native.Nat.{ℕ}
use mathlib.Core.List.{List}
use mathlib.Core.Path.{sym, ap, ◌∙◌}
use Rattle.ground.specs.Coincide.{Answers, All}
use Rattle.run.specs.Inner.{row_state_into, row_answers_into}
use Rattle.run.specs.Run.{state_into, answers_into}
use Rattle.run.proofs.check.Kinds as check-kinds
use Rattle.run.proofs.check.Reads as check-reads
use Rattle.run.proofs.check_of.Kinds as check-of-kinds
use Rattle.run.proofs.check_of.Reads as check-of-reads
use Rattle.run.proofs.run.Kinds as run-kinds
use Rattle.run.proofs.run.Reads as run-reads
use Rattle.run.proofs.run_of.Kinds as run-of-kinds
use Rattle.run.proofs.run_of.Reads as run-of-reads
use Rattle.sets.specs.Groups.{lists}

pub check-coincide : Answers check-kinds.ps check-kinds.r check-reads.Post
check-coincide κs a x y s t p q = p ∙ sym q

pub run-states-coincide : All run-kinds.ps run-kinds.r (List ℕ) (λ κs s. s.1.1.1.0.now) run-reads.Post
run-states-coincide κs a x y s t p q =
    let e = p.0 ∙ sym q.0 in
    (e, p.1.0 ∙ ap (λ (r : Answer ℕ). state_into r (lists a.0.now) a.1.0 a.1.1.0.now a.1.1.1.0.now) e ∙ sym q.1.0)

pub run-answers-coincide : All run-kinds.ps run-kinds.r (List ℕ) (λ κs s. s.1.1.1.1.0.now) run-reads.Post
run-answers-coincide κs a x y s t p q =
    let e = p.0 ∙ sym q.0 in
    (e, p.1.1 ∙ ap (λ (r : Answer ℕ). answers_into r (lists a.0.now) a.1.0 a.1.1.0.now a.1.1.1.1.0.now) e ∙ sym q.1.1)

pub check-of-coincide : Answers check-of-kinds.ps check-of-kinds.r check-of-reads.Post
check-of-coincide κs a x y s t p q = p ∙ sym q

pub run-of-states-coincide : All run-of-kinds.ps run-of-kinds.r (List ℕ) (λ κs s. s.1.1.1.1.0.now) run-of-reads.Post
run-of-states-coincide κs a x y s t p q =
    let e = p.0 ∙ sym q.0 in
    (e, p.1.0 ∙ ap (λ (r : Answer ℕ). row_state_into r a.0.now a.1.0 a.1.1.0 a.1.1.1.0.now a.1.1.1.1.0.now) e ∙ sym q.1.0)

pub run-of-answers-coincide : All run-of-kinds.ps run-of-kinds.r (List ℕ) (λ κs s. s.1.1.1.1.1.0.now) run-of-reads.Post
run-of-answers-coincide κs a x y s t p q =
    let e = p.0 ∙ sym q.0 in
    (e, p.1.1 ∙ ap (λ (r : Answer ℕ). row_answers_into r a.0.now a.1.0 a.1.1.0 a.1.1.1.0.now a.1.1.1.1.1.0.now) e ∙ sym q.1.1)
