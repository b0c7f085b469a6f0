-- The run as a public call: "Run: table, 10, 17, 9"; the answer, and what the two lent rooms hold then.
use Rattle.refusals.specs.Check.{Answer, Check}
use Rattle.std.specs.Prelude.{ℕ, ◌/◌, ◌%◌, Bool, ◌||◌, not, List, ◌++◌, eqb, ltb, length, drop, Ok, Err}
use Rattle.refusals.specs.First.{or_else, refuse}
use Rattle.refusals.specs.declared.Refusal.TheVariants.{Room}
use Rattle.refusals.specs.declared.Refusal as Refusal
use Rattle.pass.specs.Calls.{calls}
use Rattle.rules.specs.State.{width}
use Rattle.rules.specs.Vote.{vote_of}
use Rattle.sets.specs.Groups.{Groups, sites_of, set_check}
use Rattle.votes.specs.Passes.{Run}
use Rattle.votes.specs.Vote.{run_of}

-- 17: "list not a multiple of 4 bytes, or over 16,384 bytes"
unfoldable pub list_misshapen : ℕ → Bool
list_misshapen length = not (eqb (length % 4) 0) || ltb 16384 length

-- 9: "room lent too short", of either room: 4n + 6 numbers for the state, one byte a call for the answers
unfoldable pub roomless : ℕ → ℕ → ℕ → ℕ → Bool
roomless n bytes state answers = ltb state (width n) || ltb answers (bytes / 4)

-- table, 10 ("a set names a site at or above n"), 17, 9, for a list of so many bytes, and rooms of so many numbers and bytes
unfoldable pub run_check : Groups → ℕ → ℕ → ℕ → ℕ → Check
unfolding set_check list_misshapen roomless
run_check t F bytes state answers =
    or_else (set_check t F)
    (or_else (refuse (list_misshapen bytes) Refusal.Refusal.List)
    (refuse (roomless (sites_of t) bytes state answers) Room))

-- the run of this table, faulty set and list
abbrev pub the_run : Groups → ℕ → List ℕ → Run (List ℕ)
the_run t F list = run_of (vote_of t F) (calls list)

abbrev pub to_ran : Check → ℕ → Answer ℕ
to_ran (Ok _) passes = Ok passes
to_ran (Err r) passes = Err r

-- the answer: the number of passes, or the refusal
unfoldable pub ran : Groups → ℕ → List ℕ → ℕ → ℕ → Answer ℕ
unfolding run_check run_of
ran t F list state answers = to_ran (run_check t F (length list) state answers) (the_run t F list).passes

-- what a room holds then: the result in front and the rest kept; on refusal all is kept
abbrev pub front : Answer ℕ → List ℕ → ℕ → List ℕ → List ℕ
front (Ok p) result n room = result ++ drop n room
front (Err r) result n room = room

unfoldable pub state_into : Answer ℕ → Groups → ℕ → List ℕ → List ℕ → List ℕ
unfolding run_of
state_into r t F list room = front r (the_run t F list).state (width (sites_of t)) room

unfoldable pub answers_into : Answer ℕ → Groups → ℕ → List ℕ → List ℕ → List ℕ
unfolding run_of
answers_into r t F list room = front r (the_run t F list).answers (length list / 4) room
