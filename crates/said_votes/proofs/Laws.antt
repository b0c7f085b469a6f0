-- A run whose answer is said, is said.
use Rattle.refusals.specs.Check.{Answer}
use Prim.Native.Nat.{ℕ}
use mathlib.Core.List.{List}
use mathlib.Core.Path.{◌≡◌, ap, ◌∙◌}
use lib.ListN.{length}
use Rattle.said_votes.specs.Run.{run_says, run_state, run_answers}
use Rattle.run.specs.Run.{ran, state_into, answers_into}
use Rattle.telling.proofs.Laws.{said}
use Rattle.said.specs.Said.{of_number}
use Rattle.sets.specs.Groups.{Groups}

-- a run that answers as the rules say, and whose answer is said
pub run-said : (t : Groups) (F : ℕ) (list state answers : List ℕ) {r : Answer ℕ} {number : ℕ} {out state' answers' : List ℕ} →
    r ≡ ran t F list (length state) (length answers) → (number ≡ (of_number r).number) × (out ≡ (of_number r).out) →
    state' ≡ state_into r t F list state → answers' ≡ answers_into r t F list answers →
    (number ≡ (run_says t F list state answers).number) × ((out ≡ (run_says t F list state answers).out) ×
    ((state' ≡ run_state t F list state answers) × (answers' ≡ run_answers t F list state answers)))
run-said t F list state answers e p s a =
    let q = said of_number e p in (
      q.0,
      (q.1, (s ∙ ap (λ (x : Answer ℕ). state_into x t F list state) e, a ∙ ap (λ (x : Answer ℕ). answers_into x t F list answers) e)),
    )
