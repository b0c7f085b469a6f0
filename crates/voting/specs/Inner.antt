-- The public calls asked of rows: what is left of them once the table is checked.
use Rattle.refusals.specs.Check.{Check}
use Rattle.std.specs.Prelude.{ℕ, List}
use Rattle.refusals.specs.First.{or_else, refuse}
use Rattle.refusals.specs.declared.Refusal.TheVariants.{Unsound}
use Rattle.rules.specs.Rules.{answer}
use Rattle.rules.specs.Sound.{unsound}
use Rattle.rules.specs.Inner.{row_vote}
use Rattle.sets.specs.Groups.{outsider}
use Rattle.sets.specs.Inner.Rows.{row_questions}
use Rattle.votes.specs.Call.{Call}
use Rattle.votes.specs.Vote.{step, if_taken}

module _ (rows : List ℕ) (n F : ℕ) where
  -- 10, 18
  unfoldable pub row_sound : List ℕ → Check
  unfolding outsider unsound
  row_sound s = or_else (outsider n F) (refuse (unsound (row_questions rows n) n F s) Unsound)

  -- then the call
  unfoldable pub row_step : Call → List ℕ → Check
  unfolding row_sound answer
  row_step c s = or_else (row_sound s) (answer n F c s)

  unfoldable pub row_step_into : Call → List ℕ → List ℕ
  unfolding row_sound
  row_step_into c s = if_taken (row_sound s) (step (row_vote rows n F) c s) s
