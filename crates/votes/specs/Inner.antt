-- What a run rests on: the laws of a vote, each of which is proved of the vote that is run; and what the working of one call leaves.
use Rattle.refusals.specs.Check.{Check}
use Rattle.std.specs.Prelude.{ℕ, Bool, true, ◌&&◌, not, List, [], ◌∷◌, ◌⊎◌, ◌≡◌, length}
use Rattle.ground.specs.Alike.{alike}
use Rattle.refusals.specs.Refusal.{code}
use Rattle.votes.specs.Call.{Call}
use Rattle.votes.specs.Vote.{Vote, fresh, step}

-- c, if it is a proposal, is among those of May
abbrev pub Fits : (ℕ → ℕ → Type 0) → Call → Type 0
Fits May c = c.kind ≡ 0 → c.from ≡ c.to → May c.to c.side

pub record Lawful (X : Vote) : Type 1 where
  -- states are ordered; a fresh one is sound and lies below every sound one
  pub below-refl : (s : List ℕ) → X.Below s s
  pub below-trans : (s t u : List ℕ) → X.Below s t → X.Below t u → X.Below s u
  pub below-antisym : (s t : List ℕ) → X.Sound s → X.Sound t → X.Below s t → X.Below t s → s ≡ t
  pub long : (s : List ℕ) → X.Sound s → length s ≡ X.width
  pub fresh-sound : X.Sound (fresh X.width)
  pub fresh-least : (s : List ℕ) → X.Sound s → X.Below (fresh X.width) s
  -- a step only adds, and keeps a state sound
  pub adds : (c : Call) (s : List ℕ) → X.Sound s → X.Below s (step X c s)
  pub keeps : (c : Call) (s : List ℕ) → X.Sound s → X.Sound (step X c s)
  -- the bit that a call sets is set already
  pub heard : Call → List ℕ → Bool
  pub heard-grows : (c : Call) (s t : List ℕ) → X.Below s t → heard c s ≡ true → heard c t ≡ true
  pub heard-still : (c : Call) (s : List ℕ) → X.Sound s → heard c s ≡ true → step X c s ≡ s
  pub still-or-heard : (c : Call) (s : List ℕ) → X.Sound s → (step X c s ≡ s) ⊎ (heard c (step X c s) ≡ true)
  -- a call that was not refused with 15 answers so, and changes nothing, in each later state
  pub settles : (c : Call) (s t : List ℕ) → X.Sound s → (code (X.answer c s) ≡ 15 → ⊥) → X.Below (step X c s) t → X.Sound t →
      (code (X.answer c t) ≡ code (X.answer c s)) × (step X c t ≡ t)
  -- sound, and each vote one that may be proposed; among such states a step grows with the state
  pub Made : (ℕ → ℕ → Type 0) → List ℕ → Type 0
  pub made-sound : (May : ℕ → ℕ → Type 0) (s : List ℕ) → Made May s → X.Sound s
  pub made-fresh : (May : ℕ → ℕ → Type 0) → Made May (fresh X.width)
  pub made-step : (May : ℕ → ℕ → Type 0) (c : Call) → Fits May c → (s : List ℕ) → Made May s → Made May (step X c s)
  pub mono : (May : ℕ → ℕ → Type 0) → X.OneSided May → (c : Call) → Fits May c → (s t : List ℕ) → Made May s → Made May t → X.Below s t →
      X.Below (step X c s) (step X c t)

-- of one call: its answer, whether it changed the state, and the state after it
pub record Works (X : Vote) (c : Call) (s : List ℕ) (answers : Check) (changed : Bool) (after : List ℕ) : Type 0 where
  pub answers-so : answers ≡ X.answer c s
  pub changes : changed ≡ not (alike s (step X c s))
  pub state : after ≡ step X c s

-- no call of a pass changed anything
module _ {S C : Type 0} (step : C → S → S) (same : S → S → Bool) where
  abbrev pub quiet : List C → S → Bool
  quiet [] s = true
  quiet (c ∷ l) s = same s (step c s) && quiet l (step c s)
