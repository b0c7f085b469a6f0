-- What the functions inside the voting ask and promise.
use Rattle.std.specs.Prelude.{ℕ, ◌<◌, Bool, true, cond, List, ◌≡◌, eqb}
use Rattle.masks.specs.Mask.{has, ◌∈◌}
use Rattle.sets.specs.Promises.{Questions}
use Rattle.rules.specs.Rules.{accepting, confirming}
use Rattle.rules.specs.State.{votes, accepts, voted, accepted, confirmed, get}
use Rattle.rules.specs.Vote.{vote}
use Rattle.sets.specs.Inner.Rows.{row_questions}
use Rattle.votes.specs.Call.{Call}
use Rattle.votes.specs.Vote.{Vote}

-- a call whose numbers are in range
pub record InRange (n : ℕ) (c : Call) : Type 0 where
  pub kind-in : c.kind < 3
  pub from_in : c.from < n
  pub to_in : c.to < n
  pub side-in : c.side < 2

-- the bit that the call sets is set already: the receiver has voted so, or has heard it
unfoldable pub heard : ℕ → Call → List ℕ → Bool
heard n c s =
    cond (eqb c.kind 0) (has (get s (voted n c.side)) c.to)
    (cond (eqb c.kind 1) (has (get s (votes c.side c.to)) c.from)
    (has (get s (accepts c.side c.to)) c.from))

-- who is in w and was not before is the sender or the receiver
pub record New (sender receiver before w : ℕ) : Type 0 where
  pub each : (z : ℕ) → z ∈ w → (z ≡ sender → ⊥) → (z ≡ receiver → ⊥) → z ∈ before

-- the receiver had heard these votes and accepts before, and had accepted and confirmed if the rules said so from those; all that is new since then is
-- what it heard from the sender, and from itself
pub record Since (Q : Questions) (n sender receiver side votes_before accepts_before : ℕ) (s : List ℕ) : Type 0 where
  pub new-votes : New sender receiver votes_before (get s (votes side receiver))
  pub new-accepts : New sender receiver accepts_before (get s (accepts side receiver))
  pub accepted-then : accepting Q receiver votes_before accepts_before ≡ true → receiver ∈ get s (accepted n side)
  pub confirmed-then : confirming Q receiver accepts_before ≡ true → receiver ∈ get s (confirmed n side)
  -- its own accept is heard by itself
  pub own-heard : receiver ∈ get s (accepted n side) → receiver ∈ get s (accepts side receiver)

-- the vote of the rows of n sites, those of F faulty
abbrev pub row_vote : List ℕ → ℕ → ℕ → Vote
row_vote rows n F = vote (row_questions rows n) n F
