-- The journal of calls on file, as it is checked, and its list as it is read into a lent room.
use Rattle.std.specs.Prelude.{ℕ, ◌/◌, ◌%◌, Bool, ◌||◌, not, List, ◌++◌, Ok, Err, eqb, ltb, length, drop}
use Rattle.journal.specs.declared.Size.{Size}
use Rattle.journal_blocks.specs.Journal.{blocks_in, journal_blocks_check, list_of}
use Rattle.refusals.specs.First.{or_else, refuse}
use Rattle.refusals.specs.Check.{Answer, Check}
use Rattle.refusals.specs.declared.Refusal.{Refusal}
use Rattle.refusals.specs.declared.Refusal.TheVariants.{Journal, Room}

-- "19 for length (not a multiple of 512 or over 16,896)"
unfoldable pub journal_misshapen : ℕ → Bool
journal_misshapen bytes = not (eqb (bytes % 512) 0) || ltb 16896 bytes

-- the calls of a list, four bytes each
abbrev pub call_count : List ℕ → ℕ
call_count list = length list / 4

-- "reader 19 for length, then per block 2, 20 for number or count, 8; a 4,097th call is 17, after the blocks"
unfoldable pub journal_check : List ℕ → Check
unfolding journal_misshapen journal_blocks_check list_of
journal_check journal =
    or_else (refuse (journal_misshapen (length journal)) Journal)
    (or_else (journal_blocks_check (blocks_in (length journal)) journal)
    (refuse (ltb 4096 (call_count (list_of journal))) Refusal.List))

abbrev pub size_of : ℕ → ℕ → Size
size_of blocks calls = record { blocks = blocks; calls = calls }

abbrev pub to_checked : ℕ → ℕ → Check → Answer Size
to_checked blocks calls (Ok _) = Ok (size_of blocks calls)
to_checked blocks calls (Err r) = Err r

-- the answer: how many blocks and calls there are, or the refusal
unfoldable pub check : List ℕ → Answer Size
unfolding journal_check
check journal = to_checked (blocks_in (length journal)) (call_count (list_of journal)) (journal_check journal)

-- the list for a run: the refusals of the check, then 9, "room lent too short"
unfoldable pub list_check : List ℕ → ℕ → Check
unfolding journal_check
list_check journal room = or_else (journal_check journal) (refuse (ltb room (length (list_of journal))) Room)

abbrev pub to_listed : ℕ → Check → Answer ℕ
to_listed bytes (Ok _) = Ok bytes
to_listed bytes (Err r) = Err r

-- the answer for a room of so many bytes: the length of the list, or the refusal
unfoldable pub listed : List ℕ → ℕ → Answer ℕ
unfolding list_check
listed journal room = to_listed (length (list_of journal)) (list_check journal room)

-- what the room holds then: the list in its first bytes and the rest kept; on refusal all is kept
unfoldable pub list_into : Answer ℕ → List ℕ → List ℕ → List ℕ
list_into (Ok n) journal room = list_of journal ++ drop n room
list_into (Err r) journal room = room
