-- Why each premise is needed: on the tables of 01, with one premise missing, correct sites confirm different sides.
use Rattle.std.specs.Prelude.{ℕ, Bool, true, false, ◌&&◌, not, List, [], ◌∷◌, ◌++◌, ◌≡◌, eqb}
use Rattle.ground.specs.Search.{some, every, least}
use Rattle.masks.specs.Mask.{has, within, minus, gather}
use Rattle.rules.specs.Rules.{accepting, confirming, now_accepts, now_confirms, hears, taken, out_of_range, crooked, against, unsent, answer}
use Rattle.rules.specs.Sound.{not_zero, not_own, not_rule, not_sent, bad_side, bad_site, unsound}
use Rattle.rules.specs.State.{confirmed, get, add}
use Rattle.rules.specs.Vote.{vote_of}
use Rattle.run.specs.Examples.{table_b, table_apart, all}
use Rattle.sets.specs.Groups.{slices_in, questions}
use Rattle.sets.specs.Promises.{questions_of}
use Rattle.sets.specs.Quorum.{quorum, round, left, dropping, largest}
use Rattle.sets.specs.Slices.{slices_of}
use Rattle.verdicts.specs.Verdicts.{beside, apart, first_apart, meets, dispensable, is_intact, intact}
use Rattle.votes.specs.Call.{Call, call, propose}
use Rattle.votes.specs.Passes.{passes, run}
use Rattle.votes.specs.Vote.{fresh, run_of}

-- sites u and v propose a side and send each other their votes and their accepts
abbrev pub paired : ℕ → ℕ → ℕ → List Call
paired u v side = propose u side ∷ propose v side ∷ call 1 u v side ∷ call 1 v u side ∷ call 2 u v side ∷ call 2 v u side ∷ []

-- a side is proposed to site v, and sites 2 and 3 send it their votes and their accepts for that side
abbrev pub pushed : ℕ → ℕ → List Call
pushed v side = propose v side ∷ call 1 2 v side ∷ call 1 3 v side ∷ call 2 2 v side ∷ call 2 3 v side ∷ []

-- a state of four sites in which sites 0, 1 and 2 have heard the accepts of each other, for both sides, and no vote was ever cast
abbrev pub circular : List ℕ
circular =
    0 ∷ 0 ∷ 7 ∷ 7 ∷ 0 ∷ 0 ∷ 7 ∷ 7 ∷ 0 ∷ 0 ∷ 7 ∷ 7 ∷ 0 ∷ 0 ∷ 0 ∷ 0
    ∷ 0 ∷ 0 ∷ 7 ∷ 7 ∷ 7 ∷ 7 ∷ []

unfoldable pub premises_needed : List Bool
unfolding some every least has within minus gather quorum round left dropping largest slices_of questions_of beside apart first_apart meets
    dispensable is_intact
    intact accepting confirming now_accepts now_confirms hears taken out_of_range crooked against unsent answer fresh add passes run run_of not_zero
    not_own not_rule
    not_sent bad_side bad_site unsound
premises_needed =
    let parted = (run_of (vote_of table_apart 0) (paired 0 1 0 ++ paired 2 3 1)).state in
    let befouled = (run_of (vote_of table_b 12) (pushed 0 0 ++ pushed 1 1)).state in
    -- slices 3; 3; 12; 12, nobody faulty: all four sites are intact, but the table does not meet; 0 and 1 confirm drill, 2 and 3 live
    eqb (intact (slices_in table_apart) 4 0) 15
    ∷ not (meets (slices_in table_apart).inside 4)
    ∷ eqb (get parted (confirmed 4 0)) 3
    ∷ eqb (get parted (confirmed 4 1)) 12
    -- table B meets, sites 2 and 3 are faulty, and nobody is intact: they tell 0 drill and 1 live, and each confirms it
    ∷ meets (slices_in table_b).inside 4
    ∷ eqb (intact (slices_in table_b) 4 12) 0
    ∷ eqb (get befouled (confirmed 4 0)) 1
    ∷ eqb (get befouled (confirmed 4 1)) 2
    -- table B, nobody faulty: it meets, all are intact, and 18 does not refuse a state in which three sites have confirmed both sides. So the promise is of
    -- the states that steps and runs reach from the fresh one, and not of every sound state
    ∷ eqb (intact (slices_in table_b) 4 0) 15
    ∷ not (unsound (questions table_b) 4 0 circular)
    ∷ eqb (get circular (confirmed 4 0)) 7
    ∷ eqb (get circular (confirmed 4 1)) 7
    ∷ []

abbrev pub PremisesNeeded : Type 0
PremisesNeeded = all premises_needed ≡ true
