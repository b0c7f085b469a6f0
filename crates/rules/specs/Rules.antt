-- The rules of a vote, after 004, figure 1. The set questions come in as tests with the receiver first.
use Rattle.refusals.specs.Check.{Check}
use Rattle.std.specs.Prelude.{ℕ, ◌-◌, Bool, ◌&&◌, ◌||◌, not, cond, List, eqb, ltb}
use Rattle.std.specs.Int.Bits.{bit_or}
use Rattle.masks.specs.Mask.{has, single, others}
use Rattle.refusals.specs.First.{or_else, refuse}
use Rattle.refusals.specs.declared.Refusal.TheVariants.{Range, Receiver, Proposal, Voted, Unsent}
use Rattle.sets.specs.Promises.{Questions}
use Rattle.rules.specs.State.{votes, accepts, voted, accepted, confirmed, get, add}
use Rattle.votes.specs.Call.{Call}

-- the site alone if the test holds, else nobody
abbrev pub only : Bool → ℕ → ℕ
only b v = cond b (single v) 0

module _ (Q : Questions) where
  -- "It accepts if it belongs to the largest quorum inside the sites it heard a vote or an accept from, its own accept not counted; or if the
  -- accepts heard from others block it."
  unfoldable pub accepting : ℕ → ℕ → ℕ → Bool
  accepting v heard_votes heard_accepts = Q.in_quorum v (bit_or heard_votes (others heard_accepts v)) || Q.blocked v (others heard_accepts v)

  -- "It then confirms if it belongs to the largest quorum inside the sites it heard an accept from, its own now counted."
  unfoldable pub confirming : ℕ → ℕ → Bool
  confirming v heard_accepts = Q.in_quorum v heard_accepts

  -- the receiver v worked out again for a side: it accepts, and hears its own accept at once; then it confirms
  unfoldable pub now_accepts : ℕ → ℕ → ℕ → List ℕ → List ℕ
  unfolding accepting
  now_accepts n v side s =
      let a = only (accepting v (get s (votes side v)) (get s (accepts side v))) v in
      add (accepts side v) a (add (accepted n side) a s)

  unfoldable pub now_confirms : ℕ → ℕ → ℕ → List ℕ → List ℕ
  unfolding confirming
  now_confirms n v side s = add (confirmed n side) (only (confirming v (get s (accepts side v))) v) s

-- what the receiver hears, by the kind of the call: "A proposal makes the site vote for that side", and "its own vote is heard by itself at once"
unfoldable pub hears : ℕ → Call → List ℕ → List ℕ
hears n c s =
    cond (eqb c.kind 0) (add (votes c.side c.to) (single c.to) (add (voted n c.side) (single c.to) s))
    (cond (eqb c.kind 1) (add (votes c.side c.to) (single c.from) s)
    (add (accepts c.side c.to) (single c.from) s))

-- "After a taken call, the receiver alone is worked out again, for the call's side."
unfoldable pub taken : Questions → ℕ → Call → List ℕ → List ℕ
unfolding hears now_accepts now_confirms
taken Q n c s = now_confirms Q n c.to c.side (now_accepts Q n c.to c.side (hears n c s))

-- 11: "site at or above n, kind over 2, side over 1"
unfoldable pub out_of_range : ℕ → Call → Bool
out_of_range n c = not (ltb c.from n) || (not (ltb c.to n) || (ltb 2 c.kind || ltb 1 c.side))

-- 13: "a proposal whose from and to differ"
unfoldable pub crooked : Call → Bool
crooked c = eqb c.kind 0 && not (eqb c.from c.to)

-- 14: "the site has voted for the other side"
unfoldable pub against : ℕ → Call → List ℕ → Bool
against n c s = eqb c.kind 0 && has (get s (voted n (1 - c.side))) c.to

-- 15: "a correct sender has not sent this": a vote for a side it has not voted, an accept of a side it has not accepted
unfoldable pub unsent : ℕ → ℕ → Call → List ℕ → Bool
unsent n F c s =
    not (eqb c.kind 0) && (not (has F c.from) && not (has (get s (cond (eqb c.kind 1) (voted n c.side) (accepted n c.side))) c.from))

-- the answer of a call: 11, 13, 12 ("the receiver is faulty"), 14, 15; sound if it is taken
unfoldable pub answer : ℕ → ℕ → Call → List ℕ → Check
unfolding out_of_range crooked against unsent
answer n F c s =
    or_else (refuse (out_of_range n c) (Range 0))
    (or_else (refuse (crooked c) Proposal)
    (or_else (refuse (has F c.to) Receiver)
    (or_else (refuse (against n c s) Voted)
    (refuse (unsent n F c s) Unsent))))
