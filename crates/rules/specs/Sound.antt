-- Number 18. "18 means: length not 4n + 6; a bit at or above n; anything but zero for a faulty receiver; a site voting both sides; own vote bit and
-- voted mask differing; own accept bit and accepted mask differing; accepted or confirmed other than the rules above give from what was heard; a
-- vote or accept heard from a correct site that has not sent it."
use Rattle.std.specs.Prelude.{ℕ, ◌<◌, Bool, true, false, ◌&&◌, ◌||◌, List, ◌≡◌, eqb, length}
use Rattle.std.proofs.Math.Bool.{not}
use Rattle.std.specs.Int.Bits.{bit_and}
use Rattle.ground.specs.Search.{some}
use Rattle.masks.specs.Mask.{has, within, minus, all_below, ◌∈◌}
use Rattle.sets.specs.Promises.{Questions}
use Rattle.rules.specs.Rules.{accepting, confirming}
use Rattle.rules.specs.State.{votes, accepts, voted, accepted, confirmed, width, get}

-- a sound state, clause by clause
pub record Sound (Q : Questions) (n F : ℕ) (s : List ℕ) : Type 0 where
  -- its length is 4n + 6, and no number has a bit at or above n
  pub long : length s ≡ width n
  pub below : (i v : ℕ) → v ∈ get s i → v < n
  -- a faulty receiver has nothing: its four numbers are zero, and it is in none of the six masks
  pub faulty-votes : (v side : ℕ) → v < n → side < 2 → v ∈ F → get s (votes side v) ≡ 0
  pub faulty-accepts : (v side : ℕ) → v < n → side < 2 → v ∈ F → get s (accepts side v) ≡ 0
  pub faulty-voted : (v side : ℕ) → v < n → side < 2 → v ∈ F → has (get s (voted n side)) v ≡ false
  pub faulty-accepted : (v side : ℕ) → v < n → side < 2 → v ∈ F → has (get s (accepted n side)) v ≡ false
  pub faulty-confirmed : (v side : ℕ) → v < n → side < 2 → v ∈ F → has (get s (confirmed n side)) v ≡ false
  -- no site votes both sides
  pub once : (v : ℕ) → v ∈ get s (voted n 0) → v ∈ get s (voted n 1) → ⊥
  -- a site has heard its own vote and its own accept exactly if it voted and accepted
  pub own-vote : (v side : ℕ) → v < n → side < 2 → (v ∈ F → ⊥) → has (get s (votes side v)) v ≡ has (get s (voted n side)) v
  pub own-accept : (v side : ℕ) → v < n → side < 2 → (v ∈ F → ⊥) → has (get s (accepts side v)) v ≡ has (get s (accepted n side)) v
  -- it accepted and confirmed exactly if the rules say so from what it heard
  pub accepted-by-rule : (v side : ℕ) → v < n → side < 2 → (v ∈ F → ⊥) →
      has (get s (accepted n side)) v ≡ accepting Q v (get s (votes side v)) (get s (accepts side v))
  pub confirmed-by-rule : (v side : ℕ) → v < n → side < 2 → (v ∈ F → ⊥) → has (get s (confirmed n side)) v ≡ confirming Q v (get s (accepts side v))
  -- what it heard from a correct site, that site has sent
  pub votes-sent : (v u side : ℕ) → v < n → side < 2 → (u ∈ F → ⊥) → u ∈ get s (votes side v) → u ∈ get s (voted n side)
  pub accepts-sent : (v u side : ℕ) → v < n → side < 2 → (u ∈ F → ⊥) → u ∈ get s (accepts side v) → u ∈ get s (accepted n side)

-- the same as tests. Of one site v and one side: the votes and accepts that it heard, and the masks voted, accepted and confirmed of that side.

-- one test holds and not the other
abbrev pub differ : Bool → Bool → Bool
differ true b = not b
differ false b = b

-- anything but zero for a faulty receiver
unfoldable pub not_zero : ℕ → ℕ → ℕ → ℕ → ℕ → ℕ → Bool
not_zero v heard_votes heard_accepts in_voted in_accepted in_confirmed =
    not (eqb heard_votes 0) || (not (eqb heard_accepts 0) || (has in_voted v || (has in_accepted v || has in_confirmed v)))

-- own vote bit and voted mask differing; own accept bit and accepted mask differing
unfoldable pub not_own : ℕ → ℕ → ℕ → ℕ → ℕ → Bool
not_own v heard_votes heard_accepts in_voted in_accepted = differ (has heard_votes v) (has in_voted v) || differ (has heard_accepts v) (has in_accepted v)

-- accepted or confirmed other than the rules give from what was heard
unfoldable pub not_rule : Questions → ℕ → ℕ → ℕ → ℕ → ℕ → Bool
unfolding accepting confirming
not_rule Q v heard_votes heard_accepts in_accepted in_confirmed =
    differ (has in_accepted v) (accepting Q v heard_votes heard_accepts) || differ (has in_confirmed v) (confirming Q v heard_accepts)

-- a vote or accept heard from a correct site that has not sent it
unfoldable pub not_sent : ℕ → ℕ → ℕ → ℕ → ℕ → Bool
not_sent F heard_votes heard_accepts in_voted in_accepted = not (within (minus heard_votes F) in_voted) || not (within (minus heard_accepts F) in_accepted)

module _ (Q : Questions) (n F : ℕ) (s : List ℕ) where
  unfoldable pub bad_side : ℕ → ℕ → Bool
  unfolding not_zero not_own not_rule not_sent
  bad_side v side =
      let heard_votes = get s (votes side v) in
      let heard_accepts = get s (accepts side v) in
      let in_voted = get s (voted n side) in
      let in_accepted = get s (accepted n side) in
      let in_confirmed = get s (confirmed n side) in
      (has F v && not_zero v heard_votes heard_accepts in_voted in_accepted in_confirmed)
      || (not (has F v)
      && (not_own v heard_votes heard_accepts in_voted in_accepted
      || (not_rule Q v heard_votes heard_accepts in_accepted in_confirmed || not_sent F heard_votes heard_accepts in_voted in_accepted)))

  unfoldable pub bad_site : ℕ → Bool
  unfolding bad_side
  bad_site v = bad_side v 0 || bad_side v 1

  -- the state is unsound
  unfoldable pub unsound : Bool
  unfolding bad_site some
  unsound =
      not (eqb (length s) (width n))
      || (some (width n) (λ i. not (within (get s i) (all_below n)))
      || (not (eqb (bit_and (get s (voted n 0)) (get s (voted n 1))) 0)
      || some n bad_site))
