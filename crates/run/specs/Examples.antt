-- The examples of 01 that are marked P, in one list: what the definitions give beside what 01 says.
use Rattle.std.specs.Prelude.{ℕ, ◌+◌, ◌-◌, Bool, true, ◌&&◌, not, List, [], ◌∷◌, ◌++◌, eqb, length, replicate}
use Rattle.ground.specs.Alike.{alike}
use Rattle.ground.specs.Search.{some, every, least, those}
use Rattle.mark.specs.Mark.{mark}
use Rattle.masks.specs.Mask.{has, within, minus, gather}
use Rattle.sets.specs.Promises.{questions_of}
use Rattle.sets.specs.Quorum.{quorum, round, left, dropping, largest, rounds}
use Rattle.sets.specs.Slices.{slices_of}
use Rattle.verdicts.specs.Verdicts.{beside, apart, first_apart, meets, dispensable, is_intact, intact}
use Rattle.rules.specs.Rules.{accepting, confirming, now_accepts, now_confirms, hears, taken, out_of_range, crooked, against, unsent, answer}
use Rattle.rules.specs.State.{accepted, confirmed, width, get, add}
use Rattle.rules.specs.Vote.{vote_of}
use Rattle.sets.specs.Groups.{Groups, lists, slices_in}
use Rattle.votes.specs.Call.{call, propose}
use Rattle.votes.specs.Passes.{pass, passes, run}
use Rattle.votes.specs.Vote.{step, fresh, run_of}

-- the 63 numbers of a site with these slices
abbrev pub site : List ℕ → List ℕ
site q = length q ∷ (q ++ replicate (62 - length q) 0)

-- "Table A, slices as masks: 3; 3; 7; 11; 24."
abbrev pub table_a : Groups
table_a = lists (site (3 ∷ []) ++ site (3 ∷ []) ++ site (7 ∷ []) ++ site (11 ∷ []) ++ site (24 ∷ []))

-- "Table B, four sites, all three-site sets with the owner: 7 11 13; 7 11 14; 7 13 14; 11 13 14."
abbrev pub rows_b : List ℕ
rows_b = site (7 ∷ 11 ∷ 13 ∷ []) ++ site (7 ∷ 11 ∷ 14 ∷ []) ++ site (7 ∷ 13 ∷ 14 ∷ []) ++ site (11 ∷ 13 ∷ 14 ∷ [])

abbrev pub table_b : Groups
table_b = lists rows_b

-- "slices 3; 3; 12; 12"
abbrev pub table_apart : Groups
table_apart = lists (site (3 ∷ []) ++ site (3 ∷ []) ++ site (12 ∷ []) ++ site (12 ∷ []))

-- "one site with slice 1"
abbrev pub table_one : Groups
table_one = lists (site (1 ∷ []))

abbrev pub all : List Bool → Bool
all [] = true
all (b ∷ l) = b && all l

unfoldable pub examples : List Bool
unfolding some every least those has within minus gather quorum round left dropping largest rounds slices_of questions_of beside apart first_apart meets
    dispensable is_intact intact mark accepting confirming now_accepts now_confirms hears taken out_of_range crooked against unsent answer fresh add
    passes run run_of
examples =
    let A = slices_in table_a in
    let B = slices_in table_b in
    let C = slices_in table_apart in
    let one_end = (run_of (vote_of table_one 0) (propose 0 0 ∷ [])).state in
    let heard_end = pass (step (vote_of table_b 8)) (propose 0 0 ∷ propose 1 0 ∷ propose 2 0 ∷ call 1 1 0 0 ∷ call 1 2 0 0 ∷ []) (fresh (width 4)) in
    -- A's quorums are 3, 7, 11, 15, 27, 31
    alike (those 32 (quorum A.inside 5)) (3 ∷ 7 ∷ 11 ∷ 15 ∷ 27 ∷ 31 ∷ [])
    -- A's dispensable sets are 0, 4, 16, 20, 24, 28, 31
    ∷ alike (those 32 (dispensable A 5)) (0 ∷ 4 ∷ 16 ∷ 20 ∷ 24 ∷ 28 ∷ 31 ∷ [])
    -- A with F = 8: intact 7
    ∷ eqb (intact A 5 8) 7
    -- B's dispensable sets are 0, 1, 2, 4, 8, 15
    ∷ alike (those 16 (dispensable B 4)) (0 ∷ 1 ∷ 2 ∷ 4 ∷ 8 ∷ 15 ∷ [])
    -- B with F = 3: intact 0
    ∷ eqb (intact B 4 3) 0
    -- slices 3; 3; 12; 12: not meeting, pair 3 and 12
    ∷ not (meets C.inside 4)
    ∷ eqb (first_apart C.inside 4) 3
    ∷ eqb (beside C.inside 4 3) 12
    -- in B, set 6 blocks site 0, set 2 does not
    ∷ B.blocked 0 6
    ∷ not (B.blocked 0 2)
    -- one site with slice 1, F = 0: a proposal of drill accepts and confirms at once; mark 1
    ∷ eqb (get one_end (accepted 1 0)) 1
    ∷ eqb (get one_end (confirmed 1 0)) 1
    ∷ eqb (mark 0 (get one_end (confirmed 1 0)) (get one_end (confirmed 1 1))) 1
    -- B, F = 8: sites 0, 1, 2 propose drill, 0 hears votes of 1 and 2: 0 accepts, does not confirm
    ∷ eqb (get heard_end (accepted 4 0)) 1
    ∷ eqb (get heard_end (confirmed 4 0)) 0
    -- list "vote 0 to 1 drill, propose 0 drill" in B, F = 0: 3 passes. Empty list: 1 pass
    ∷ eqb (run_of (vote_of table_b 0) (call 1 0 1 0 ∷ propose 0 0 ∷ [])).passes 3
    ∷ eqb (run_of (vote_of table_b 0) []).passes 1
    ∷ []
