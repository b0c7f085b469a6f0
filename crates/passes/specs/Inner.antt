-- What the loop over the passes carries, of any vote.
use Rattle.std.specs.Prelude.{ℕ, suc, ◌*◌, ◌≤◌, ◌<◌, List, ◌≡◌, length}
use Rattle.pass.specs.Calls.{calls}
use Rattle.pass_again.specs.Inner.{Told, Waiting}
use Rattle.votes.specs.Call.{Call}
use Rattle.votes.specs.Passes.{iter}
use Rattle.votes.specs.Vote.{Vote, fresh, step, run_of}

module _ (X : Vote) where
  -- k passes from a fresh state, each of which changed something
  pub record Going (l : List Call) (k : ℕ) (s : List ℕ) : Type 0 where
    pub state : s ≡ iter (step X) k l (fresh X.width)
    pub sound : X.Sound s
    pub each : (j : ℕ) → j < k → iter (step X) (suc j) l (fresh X.width) ≡ iter (step X) j l (fresh X.width) → ⊥

  -- after a first pass that changed something
  pub record Begun (list s out w : List ℕ) : Type 0 where
    pub fits : length list ≡ 4 * length out
    pub short : length out ≤ 4096
    pub going : Going (calls list) 1 s
    pub told : Told X list s out
    pub room : length out ≤ length w

  -- between two passes: k are behind, each of which changed something, and the first `count` of w are the calls that wait
  pub record Between (list : List ℕ) (k : ℕ) (s out : List ℕ) (count : ℕ) (w : List ℕ) : Type 0 where
    pub going : Going (calls list) k s
    pub waiting : Waiting X list s out count w

  -- the whole run
  pub record Whole (l : List Call) (passes : ℕ) (s out : List ℕ) : Type 0 where
    pub count : passes ≡ (run_of X l).passes
    pub state : s ≡ (run_of X l).state
    pub answers : out ≡ (run_of X l).answers
