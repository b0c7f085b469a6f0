-- The run as a public call, asked of rows: what is left of it once the table is checked.
use Rattle.refusals.specs.Check.{Answer, Check}
use Rattle.std.specs.Prelude.{ℕ, ◌/◌, List, length}
use Rattle.pass.specs.Calls.{calls}
use Rattle.refusals.specs.First.{or_else, refuse}
use Rattle.refusals.specs.declared.Refusal as Refusal
use Rattle.refusals.specs.declared.Refusal.TheVariants.{Room}
use Rattle.rules.specs.State.{width}
use Rattle.rules.specs.Inner.{row_vote}
use Rattle.run.specs.Run.{list_misshapen, roomless, to_ran, front}
use Rattle.sets.specs.Groups.{outsider}
use Rattle.votes.specs.Passes.{Run}
use Rattle.votes.specs.Vote.{run_of}

-- 10, 17, 9
unfoldable pub row_run_check : ℕ → ℕ → ℕ → ℕ → ℕ → Check
unfolding outsider list_misshapen roomless
row_run_check n F bytes state answers =
    or_else (outsider n F)
    (or_else (refuse (list_misshapen bytes) Refusal.Refusal.List)
    (refuse (roomless n bytes state answers) Room))

-- the run, the answer, and what the two rooms hold then
abbrev pub row_run : List ℕ → ℕ → ℕ → List ℕ → Run (List ℕ)
row_run rows n F list = run_of (row_vote rows n F) (calls list)

unfoldable pub row_ran : List ℕ → ℕ → ℕ → List ℕ → ℕ → ℕ → Answer ℕ
unfolding row_run_check run_of
row_ran rows n F list state answers = to_ran (row_run_check n F (length list) state answers) (row_run rows n F list).passes

unfoldable pub row_state_into : Answer ℕ → List ℕ → ℕ → ℕ → List ℕ → List ℕ → List ℕ
unfolding run_of
row_state_into r rows n F list room = front r (row_run rows n F list).state (width n) room

unfoldable pub row_answers_into : Answer ℕ → List ℕ → ℕ → ℕ → List ℕ → List ℕ → List ℕ
unfolding run_of
row_answers_into r rows n F list room = front r (row_run rows n F list).answers (length list / 4) room
