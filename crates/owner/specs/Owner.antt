-- The owner left out of blocking, against the rule as it was: what changes, and what does not.
use Rattle.std.specs.Prelude.{ℕ, false, List, ◌≡◌}
use Rattle.masks.specs.Mask.{single, others}
use Rattle.rules.specs.Rules.{accepting, confirming}
use Rattle.rules.specs.Sound.{unsound}
use Rattle.rules.specs.Vote.{vote}
use Rattle.sets.specs.Before.{owner_counted}
use Rattle.sets.specs.Groups.{lists, sites_of, fbqs_in, questions}
use Rattle.sets.specs.Promises.{Questions, questions_of}
use Rattle.votes.specs.Call.{Call}
use Rattle.votes.specs.Vote.{step, run_of}

-- the questions of a table in memory by the rule as it was (`owner_counted`)
abbrev pub questions_before : List ℕ → Questions
questions_before t = questions_of (owner_counted t) (sites_of (lists t))

-- what changes: "the owner's bit is taken out of the set before it is compared"
abbrev pub OthersAsBefore : Type 0
OthersAsBefore = (t : List ℕ) (v w : ℕ) → (questions (lists t)).blocked v w ≡ (questions_before t).blocked v (others w v)

-- "A site with a slice of itself alone is then blocked by nobody."
abbrev pub AloneUnblocked : Type 0
AloneUnblocked = (t : List ℕ) (v q w : ℕ) → (fbqs_in (lists t)).Slice v q → q ≡ single v → (questions (lists t)).blocked v w ≡ false

-- "no accept, confirm or run answer changes", of n sites, those of F faulty: nor does a step, nor what number 18 says of a state
pub record NothingChanges (old new : Questions) (n F : ℕ) : Type 0 where
  pub accepts : (v heard_votes heard_accepts : ℕ) → accepting new v heard_votes heard_accepts ≡ accepting old v heard_votes heard_accepts
  pub confirms : (v heard_accepts : ℕ) → confirming new v heard_accepts ≡ confirming old v heard_accepts
  pub steps : (c : Call) (s : List ℕ) → step (vote new n F) c s ≡ step (vote old n F) c s
  pub states : (s : List ℕ) → unsound new n F s ≡ unsound old n F s
  pub runs : (l : List Call) → run_of (vote new n F) l ≡ run_of (vote old n F) l

abbrev pub OwnerLeftOut : Type 0
OwnerLeftOut = (t : List ℕ) (n F : ℕ) → NothingChanges (questions_before t) (questions (lists t)) n F
