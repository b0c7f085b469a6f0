-- What a run knows of a vote, and nothing else: how many numbers its state has, what a call is answered, what a taken call makes of the state, which
-- states are sound.
use Rattle.refusals.specs.Check.{Check}
use Rattle.std.specs.Prelude.{ℕ, replicate, Ok, Err}
use mathlib.Core.List.{List, Memᴰ}
use Rattle.ground.specs.Alike.{alike}
use Rattle.refusals.specs.Refusal.{code}
use Rattle.votes.specs.Call.{Call, propose}
use Rattle.votes.specs.Passes.{Run, run}

pub record Vote : Type 1 where
  -- the numbers of its state
  pub width : ℕ
  pub answer : Call → List ℕ → Check
  -- the state after a taken call
  pub taken : Call → List ℕ → List ℕ
  pub Sound : List ℕ → Type 0
  -- one state lies below another
  pub Below : List ℕ → List ℕ → Type 0
  -- "proposes both sides to no correct site", of the proposals `May v side` that a list has
  pub OneSided : (ℕ → ℕ → Type 0) → Type 0

-- "The fresh state is all zero.": of so many numbers
unfoldable pub fresh : ℕ → List ℕ
fresh width = replicate width 0

-- the state after a call: a refused one leaves it as it was
abbrev pub if_taken : Check → List ℕ → List ℕ → List ℕ
if_taken (Ok _) t s = t
if_taken (Err r) t s = s

abbrev pub step : Vote → Call → List ℕ → List ℕ
step X c s = if_taken (X.answer c s) (X.taken c s) s

-- the run of a list of calls, from a fresh state
unfoldable pub run_of : Vote → List Call → Run (List ℕ)
unfolding run fresh
run_of X l = run (step X) (λ c s. code (X.answer c s)) alike (fresh X.width) l

-- "the list proposes both sides to no correct site"
abbrev pub OneSided : Vote → List Call → Type 0
OneSided X l = X.OneSided (λ v side. Memᴰ (propose v side) l)
