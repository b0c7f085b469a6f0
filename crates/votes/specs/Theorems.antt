-- Demand 3, and what stands beside it, of any lawful vote.
use Rattle.std.specs.Prelude.{ℕ, suc, ◌≤◌, ◌<◌, List, ◌≡◌, length, get_or}
use Rattle.refusals.specs.Refusal.{code}
use Rattle.votes.specs.Call.{Call}
use Rattle.votes.specs.Inner.{Lawful}
use Rattle.votes.specs.Passes.{Run, pass, iter, answers_of, Within, SameCalls}
use Rattle.votes.specs.Vote.{Vote, fresh, step, run_of, OneSided}

-- The run is the run: so many passes from a fresh state changed something, each of them; the one after them changed nothing and is counted; the answers
-- are of that last pass.
pub record IsRun (X : Vote) (l : List Call) (r : Run (List ℕ)) : Type 0 where
  pub changing : ℕ
  pub passes-is : r.passes ≡ suc changing
  pub state-is : r.state ≡ iter (step X) changing l (fresh X.width)
  pub each-changed : (j : ℕ) → j < changing → iter (step X) (suc j) l (fresh X.width) ≡ iter (step X) j l (fresh X.width) → ⊥
  pub last-still : pass (step X) l r.state ≡ r.state
  pub last-answers : r.answers ≡ answers_of (step X) (λ c s. code (X.answer c s)) l r.state

-- only one outcome is like that
abbrev pub OnlyRun : Type 1
OnlyRun = (X : Vote) (l : List Call) (r s : Run (List ℕ)) → IsRun X l r → IsRun X l s → r ≡ s

-- the run of a lawful vote is like that, and ends in a sound state
abbrev pub VoteIsRun : Type 1
VoteIsRun = (X : Vote) → Lawful X → (l : List Call) → IsRun X l (run_of X l) × X.Sound (run_of X l).state

-- every list of the same calls ends in the same state, and each call has the same answer in its last pass
abbrev pub VoteOrderFree : Type 1
VoteOrderFree =
    (X : Vote) → Lawful X → (a b : List Call) → OneSided X a → SameCalls a b →
    ((run_of X a).state ≡ (run_of X b).state)
    × ((d : Call) (i j : ℕ) → i < length a → j < length b → get_or a i d ≡ get_or b j d → get_or (run_of X a).answers i 0 ≡ get_or (run_of X b).answers j 0)

-- the passes never exceed the calls by more than one
abbrev pub VoteFewPasses : Type 1
VoteFewPasses = (X : Vote) → Lawful X → (l : List Call) → (run_of X l).passes ≤ suc (length l)

-- fewer calls end lower
abbrev pub VoteFewerBelow : Type 1
VoteFewerBelow = (X : Vote) → Lawful X → (a b : List Call) → OneSided X a → Within b a → X.Below (run_of X b).state (run_of X a).state
