-- What the loops over the calls of one pass carry, of any vote.
use Rattle.std.specs.Prelude.{ℕ, ◌≤◌, Bool, not, List, ◌++◌, ◌≡◌, length, take, drop}
use Rattle.ground.specs.Alike.{alike}
use Rattle.pass.specs.Calls.{calls}
use Rattle.refusals.specs.Refusal.{code}
use Rattle.votes.specs.Call.{Call}
use Rattle.votes.specs.Inner.{quiet}
use Rattle.votes.specs.Passes.{pass, answers_of}
use Rattle.votes.specs.Vote.{Vote, step}

module _ (X : Vote) where
  -- the answers of a pass
  abbrev pub answers_from : List Call → List ℕ → List ℕ
  answers_from l s = answers_of (step X) (λ c s. code (X.answer c s)) l s

  -- after the first i calls of a pass that began with the state s₀ and the answer bytes out₀
  pub record After (list s₀ out₀ : List ℕ) (i : ℕ) (changed : Bool) (s out : List ℕ) : Type 0 where
    pub within : i ≤ length out₀
    pub long : length out ≡ length out₀
    pub sound : X.Sound s
    pub state : s ≡ pass (step X) (take i (calls list)) s₀
    pub answers : out ≡ answers_from (take i (calls list)) s₀ ++ drop i out₀
    pub flag : changed ≡ not (quiet (step X) alike (take i (calls list)) s₀)

  -- a whole pass
  pub record Passed (l : List Call) (s₀ : List ℕ) (changed : Bool) (s out : List ℕ) : Type 0 where
    pub state : s ≡ pass (step X) l s₀
    pub answers : out ≡ answers_from l s₀
    pub flag : changed ≡ not (quiet (step X) alike l s₀)
