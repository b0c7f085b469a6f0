-- Accepting and confirming in the words of 004, section 3.2 and figure 1, of what a site heard.
use Rattle.std.specs.Prelude.{ℕ, ◌<◌, true, List, ◌⊎◌, ◌↔◌, ◌≡◌, Ok}
use Rattle.masks.specs.Mask.{others, ◌∈◌, ◌⊆◌}
use Rattle.rules.specs.Rules.{accepting, confirming}
use Rattle.rules.specs.State.{votes, accepts, accepted, confirmed, width, get}
use Rattle.rules.specs.Theorems.{Rests}
use Rattle.run.specs.Theorems.{Taken, end_state}
use Rattle.sets.specs.Groups.{Groups, fbqs_in, sites_of, set_check}
use Rattle.sets.specs.Paper.{Fbqs, Quorum, Blocking}
use Rattle.sets.specs.Promises.{Questions}
use Rattle.votes.specs.Call.{Call}
use Rattle.votes.specs.Vote.{fresh}
use Rattle.voting.specs.Step.{sound_check, step_into}

-- "A server v accepts a statement a iff it determines that either (i) there exist a quorum U such that v ∈ U and each member of U either votes for a or
-- accepts a, or (ii) each member of a v-blocking set accepts a": of the sites it heard a vote from, and those it heard an accept from
abbrev pub Accepts : Fbqs → ℕ → ℕ → ℕ → Type 0
Accepts S v heard_votes heard_accepts =
    ((U : ℕ) × Quorum S U × (v ∈ U) × ((u : ℕ) → u ∈ U → (u ∈ heard_votes) ⊎ (u ∈ heard_accepts)))
    ⊎ ((B : ℕ) × Blocking S v B × (B ⊆ heard_accepts))

-- "A quorum U confirms a statement a iff every server in U accepts a. A server confirms a iff it is in such a quorum."
abbrev pub Confirms : Fbqs → ℕ → ℕ → Type 0
Confirms S v heard_accepts = (U : ℕ) × Quorum S U × (v ∈ U) × (U ⊆ heard_accepts)

-- the two rules are the published ones, from the sets' promises alone; "its own accept not counted" in the first, "its own now counted" in the second
abbrev pub AcceptsAsPublished : Type 1
AcceptsAsPublished =
    (S : ℕ → Fbqs) (Q : Questions) (n : ℕ) → Rests S Q n → (v a b : ℕ) → (accepting Q v a b ≡ true) ↔ Accepts (S v) v a (others b v)

abbrev pub ConfirmsAsPublished : Type 1
ConfirmsAsPublished =
    (S : ℕ → Fbqs) (Q : Questions) (n : ℕ) → Rests S Q n → (v b : ℕ) → (confirming Q v b ≡ true) ↔ Confirms (S v) v b

-- of a state s of n sites over S, those of F faulty: each correct site has accepted, and has confirmed, exactly if the published rules say so of what
-- it heard
abbrev pub Published : Fbqs → ℕ → ℕ → List ℕ → Type 0
Published S n F s =
    (v side : ℕ) → v < n → side < 2 → (v ∈ F → ⊥) →
    ((v ∈ get s (accepted n side)) ↔ Accepts S v (get s (votes side v)) (others (get s (accepts side v)) v))
    × ((v ∈ get s (confirmed n side)) ↔ Confirms S v (get s (accepts side v)))

-- every state that is not refused with 18
abbrev pub StateAsPublished : Type 0
StateAsPublished =
    (t : Groups) (F : ℕ) (s : List ℕ) → sound_check t F s ≡ Ok tt → Published (fbqs_in t) (sites_of t) F s

-- the state that the public run ends in
abbrev pub EndAsPublished : Type 0
EndAsPublished =
    (t : Groups) (F : ℕ) (list state answers : List ℕ) (p : ℕ) → Taken t F list state answers p →
    Published (fbqs_in t) (sites_of t) F (end_state t F list state p)

-- no public call refuses with 18 what a public call left: the fresh state, the state after a step, the state that a run ends in
abbrev pub NeverUnsound : Type 0
NeverUnsound =
    ((t : Groups) (F : ℕ) → set_check t F ≡ Ok tt → sound_check t F (fresh (width (sites_of t))) ≡ Ok tt)
    × ((t : Groups) (F : ℕ) (c : Call) (s : List ℕ) → sound_check t F s ≡ Ok tt → sound_check t F (step_into t F c s) ≡ Ok tt)
    × ((t : Groups) (F : ℕ) (list state answers : List ℕ) (p : ℕ) → Taken t F list state answers p → sound_check t F (end_state t F list state p) ≡ Ok tt)
