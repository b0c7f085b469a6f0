-- The premises can be met, and each is needed: computed runs of the tables of 01.
use Rattle.std.specs.Prelude.{ℕ, ◌<◌, Bool, true, false, ◌&&◌, not, List, [], ◌∷◌, ◌++◌, ◌≡◌, eqb, replicate}
use Rattle.ground.specs.Search.{some, every, least}
use Rattle.liveness.specs.Complete.{is_complete, lacks}
use Rattle.liveness.specs.Liveness.{CompleteRun, Confirmed, end_mark}
use Rattle.masks.specs.Mask.{has, within, minus, gather}
use Rattle.rules.specs.Rules.{accepting, confirming, now_accepts, now_confirms, hears, taken, out_of_range, crooked, against, unsent, answer}
use Rattle.rules.specs.State.{accepted, confirmed, get, add}
use Rattle.run.specs.Examples.{table_a, table_b, table_apart, all}
use Rattle.run.specs.Run.{the_run}
use Rattle.run.specs.Theorems.{Taken}
use Rattle.same_calls.specs.Same.{is_call, has_call}
use Rattle.sets.specs.Groups.{fbqs_in, slices_in}
use Rattle.sets.specs.Paper.{Intersection, Intact}
use Rattle.sets.specs.Promises.{questions_of}
use Rattle.sets.specs.Quorum.{quorum, round, left, dropping, largest}
use Rattle.sets.specs.Slices.{slices_of}
use Rattle.verdicts.specs.Verdicts.{beside, apart, first_apart, meets, dispensable, is_intact, intact}
use Rattle.votes.specs.Passes.{passes, run}
use Rattle.votes.specs.Vote.{fresh, run_of}

-- four bytes of a call
abbrev pub bytes : ℕ → ℕ → ℕ → ℕ → List ℕ
bytes kind from to side = kind ∷ from ∷ to ∷ side ∷ []

-- Table B with site 3 faulty: sites 0, 1 and 2 propose drill and send each other their votes and their accepts, but for the accept of site 0 to site 1
abbrev pub short_list : List ℕ
short_list =
    bytes 0 0 0 0 ++ bytes 0 1 1 0 ++ bytes 0 2 2 0
    ++ bytes 1 0 1 0 ++ bytes 1 0 2 0 ++ bytes 1 1 0 0 ++ bytes 1 1 2 0 ++ bytes 1 2 0 0 ++ bytes 1 2 1 0
    ++ bytes 2 0 2 0 ++ bytes 2 1 0 0 ++ bytes 2 1 2 0 ++ bytes 2 2 0 0 ++ bytes 2 2 1 0

-- and that one too
abbrev pub full_list : List ℕ
full_list = short_list ++ bytes 2 0 1 0

-- an empty room
abbrev pub room : ℕ → List ℕ
room k = replicate k 0

-- of a run of one of the two lists: it is taken, the table meets, sites 0, 1 and 2 are intact, and site 0 has confirmed drill
pub record Shown (list : List ℕ) (k : ℕ) : Type 0 where
  pub took : Taken table_b 8 list (room 22) (room k) 2
  pub shared : Intersection (fbqs_in table_b)
  pub intact : (v : ℕ) → v < 3 → Intact (fbqs_in table_b) 8 v
  pub confirms : Confirmed table_b 8 list (room 22) 2 0 0

-- the full list meets every premise
abbrev pub Met : Type 0
Met = Shown full_list 15 × CompleteRun table_b 8 full_list (room 22) (room 15) 2 0

-- without that one call two intact sites end with different marks
abbrev pub Needed : Type 0
Needed = Shown short_list 14 × (end_mark table_b 8 short_list (room 22) 2 0 ≡ 1) × (end_mark table_b 8 short_list (room 22) 2 1 ≡ 0)

-- sites u and v propose drill and send each other their votes
abbrev pub pair : ℕ → ℕ → List ℕ
pair u v = bytes 0 u u 0 ++ bytes 0 v v 0 ++ bytes 1 u v 0 ++ bytes 1 v u 0

-- What the other premises are for.
unfoldable pub edges : List Bool
unfolding some every least has within minus gather quorum round left dropping largest slices_of questions_of beside apart first_apart meets
    dispensable is_intact
    intact accepting confirming now_accepts now_confirms hears taken out_of_range crooked against unsent answer fresh add passes run run_of is_call
    has_call lacks
    is_complete
edges =
    let apart = pair 0 1 ++ bytes 2 0 1 0 ++ bytes 2 0 2 0 ++ bytes 2 0 3 0 ++ bytes 2 1 0 0 ++ bytes 2 1 2 0 ++ bytes 2 1 3 0 in
    let apart_end = (the_run table_apart 0 apart).state in
    let told =
    pair 0 1 ++ bytes 2 0 1 0 ++ bytes 2 0 2 0 ++ bytes 2 0 4 0 ++ bytes 2 1 0 0 ++ bytes 2 1 2 0 ++ bytes 2 1 4 0
    ++ bytes 2 2 0 0 ++ bytes 2 2 1 0 ++ bytes 2 2 4 0 in
    let told_end = (the_run table_a 8 told).state in
    let short_end = (the_run table_b 8 short_list).state in
    -- slices 3; 3; 12; 12, nobody faulty: all are intact, the list is complete, sites 0 and 1 alone confirm; but the table does not meet
    eqb (intact (slices_in table_apart) 4 0) 15
    ∷ is_complete 4 15 0 apart (get apart_end (accepted 4 0))
    ∷ eqb (get apart_end (confirmed 4 0)) 3
    ∷ not (meets (slices_in table_apart).inside 4)
    -- A with F = 8: the table meets, the list is complete, the intact sites 0, 1 and 2 confirm; site 4 is correct, would be intact with F = 0, hears each
    -- of them, and does not confirm
    ∷ meets (slices_in table_a).inside 5
    ∷ eqb (intact (slices_in table_a) 5 8) 7
    ∷ eqb (intact (slices_in table_a) 5 0) 31
    ∷ is_complete 5 7 0 told (get told_end (accepted 5 0))
    ∷ eqb (get told_end (confirmed 5 0)) 7
    -- B with F = 8: the list that lacks one accept of drill is complete for live, and lacks the accept of site 0 to site 1 alone
    ∷ is_complete 4 7 1 short_list (get short_end (accepted 4 1))
    ∷ not (is_complete 4 7 0 short_list (get short_end (accepted 4 0)))
    ∷ lacks 7 0 short_list (get short_end (accepted 4 0)) 0 1
    ∷ not (lacks 7 0 short_list (get short_end (accepted 4 0)) 1 0)
    ∷ []

abbrev pub EdgesHold : Type 0
EdgesHold = all edges ≡ true
