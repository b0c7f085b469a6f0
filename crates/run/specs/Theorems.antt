-- What is proved of the run: demand 3 and what stands beside it, each of the public call: its answer and its two rooms.
use Rattle.std.specs.Prelude.{ℕ, suc, ◌+◌, ◌/◌, ◌≤◌, ◌<◌, List, ◌≡◌, length, get_or, take, Ok}
use Rattle.masks.specs.Mask.{minus, all_below, size as count}
use Rattle.pass.specs.Calls.{calls, call_at}
use Rattle.rules.specs.State.{width, Below}
use Rattle.rules.specs.Vote.{vote_of}
use Rattle.run.specs.Run.{ran, state_into, answers_into}
use Rattle.sets.specs.Groups.{Groups, sites_of, Checked}
use Rattle.votes.specs.Call.{Call}
use Rattle.votes.specs.Passes.{Within, SameCalls}
use Rattle.votes.specs.Theorems.{IsRun}
use Rattle.votes.specs.Vote.{run_of, OneSided}

-- a run of the public call: the table, the faulty set, the list and the two rooms lent, and that it was taken, with so many passes
pub record Taken (t : Groups) (F : ℕ) (list state answers : List ℕ) (passes : ℕ) : Type 0 where
  pub took : ran t F list (length state) (length answers) ≡ Ok passes

-- what it leaves: the first 4n + 6 numbers of the state room, and one byte a call
abbrev pub end_state : Groups → ℕ → List ℕ → List ℕ → ℕ → List ℕ
end_state t F list state passes = take (width (sites_of t)) (state_into (Ok passes) t F list state)

abbrev pub end_answers : Groups → ℕ → List ℕ → List ℕ → ℕ → List ℕ
end_answers t F list answers passes = take (length list / 4) (answers_into (Ok passes) t F list answers)

-- Demand 3: "If the list proposes both sides to no correct site, then every list of the same calls within the length limit, in whichever order and with
-- whichever repeats, ends in the same state by demand 2's rules, and each call has the same answer in its last pass."
abbrev pub OrderFree : Type 0
OrderFree =
    (t : Groups) (F : ℕ) (a state_a answers_a : List ℕ) (p : ℕ) (b state_b answers_b : List ℕ) (q : ℕ) →
    Taken t F a state_a answers_a p → Taken t F b state_b answers_b q →
    OneSided (vote_of t F) (calls a) → SameCalls (calls a) (calls b) →
    (end_state t F a state_a p ≡ end_state t F b state_b q)
    × ((i j : ℕ) → i < length a / 4 → j < length b / 4 → call_at a i ≡ call_at b j →
    get_or (end_answers t F a answers_a p) i 0 ≡ get_or (end_answers t F b answers_b q) j 0)

-- Demand 3: "The passes never exceed the calls in that list by more than one", for every list
abbrev pub FewPasses : Type 0
FewPasses = (t : Groups) (F : ℕ) (list state answers : List ℕ) (p : ℕ) → Taken t F list state answers p → p ≤ suc (length list / 4)

-- The run is the run: what the call answers and what its two rooms hold are the run of its list, and only one outcome is like that (`OnlyRun`)
abbrev pub TheRun : Type 0
TheRun =
    (t : Groups) (F : ℕ) (list state answers : List ℕ) (p : ℕ) → Taken t F list state answers p →
    IsRun (vote_of t F) (calls list)
    (record { state = end_state t F list state p; passes = p; answers = end_answers t F list answers p })

-- Beyond the request: the passes never exceed the correct sites by more than three, opposite proposals too
abbrev pub SharpBound : Type 0
SharpBound =
    (t : Groups) (F : ℕ) (list state answers : List ℕ) (p : ℕ) → Taken t F list state answers p →
    p ≤ count (minus (all_below (sites_of t)) F) + 3

-- and from two correct sites on some table and list reach that
abbrev pub Reached : Type 0
Reached =
    (n : ℕ) → 2 ≤ n → n ≤ 64 →
    (t : Groups) × (l : List Call) × Checked t × (sites_of t ≡ n) × (length l ≡ n + 3) × ((run_of (vote_of t 0) l).passes ≡ n + 3)

-- Fewer calls end lower: a list whose calls are among those of a list that proposes both sides to no correct site ends in a state below
abbrev pub FewerBelow : Type 0
FewerBelow =
    (t : Groups) (F : ℕ) (a state_a answers_a : List ℕ) (p : ℕ) (b state_b answers_b : List ℕ) (q : ℕ) →
    Taken t F a state_a answers_a p → Taken t F b state_b answers_b q →
    OneSided (vote_of t F) (calls a) → Within (calls b) (calls a) →
    Below (end_state t F b state_b q) (end_state t F a state_a p)
