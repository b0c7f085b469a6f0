-- The public calls: "Step, its call handed over as four byte values: table, 10 (faulty set), 18, 11, 13, 12, 14, 15."
use Rattle.refusals.specs.Check.{Check}
use Rattle.std.specs.Prelude.{ℕ, List}
use Rattle.refusals.specs.First.{or_else, refuse}
use Rattle.refusals.specs.declared.Refusal.TheVariants.{Unsound}
use Rattle.rules.specs.Rules.{answer}
use Rattle.rules.specs.Sound.{unsound}
use Rattle.rules.specs.Vote.{vote_of}
use Rattle.sets.specs.Groups.{Groups, sites_of, set_check, questions}
use Rattle.votes.specs.Call.{Call}
use Rattle.votes.specs.Vote.{step, if_taken}

-- table, 10 ("a set names a site at or above n"), 18
unfoldable pub sound_check : Groups → ℕ → List ℕ → Check
unfolding set_check unsound
sound_check t F s = or_else (set_check t F) (refuse (unsound (questions t) (sites_of t) F s) Unsound)

-- then the call
unfoldable pub step_check : Groups → ℕ → Call → List ℕ → Check
unfolding sound_check answer
step_check t F c s = or_else (sound_check t F s) (answer (sites_of t) F c s)

-- what the state is then: a taken call changes what the rules say, a refused one nothing
unfoldable pub step_into : Groups → ℕ → Call → List ℕ → List ℕ
unfolding sound_check
step_into t F c s = if_taken (sound_check t F s) (step (vote_of t F) c s) s
