-- What a text is, and what it leaves in a lent room: the table's 63 n numbers, or nothing.
use Rattle.std.specs.Prelude.{ℕ, ◌*◌, Bool, false, not, cond, List, ◌++◌, ltb, length, take, drop, replicate, Result, Ok, Err}
use Rattle.table_grammar.specs.Grammar.{expected}
use Rattle.table_grammar.specs.declared.Phase.{Phase}
use Rattle.table_grammar.specs.declared.Phase.TheVariants.{Head, Count, Tail, Owner, Mark, First, More, Wrong}
use Rattle.table_grammar.specs.declared.Spot.{Spot}
use Rattle.table_reading.specs.Reading.{Here, text_read}
use Rattle.table_made.specs.declared.Fault.{Fault}
use Rattle.table_made.specs.declared.Fault.TheVariants.{Line, Room}

-- all lines of sites were there, and no more are expected
abbrev pub is_whole : Phase → Bool → Bool
is_whole Head more = false
is_whole Count more = false
is_whole Tail more = false
is_whole Owner more = not more
is_whole Mark more = false
is_whole First more = false
is_whole More more = false
is_whole (Wrong why) more = false

-- a table, or the first fault. Where the text ends too early every line was passed: the fault is in the line after its last
unfoldable pub answer_of : Spot → Result ℕ Fault
answer_of s =
    cond (is_whole s.phase (ltb s.v s.n))
    (Ok s.n)
    (Err (Line s.line (expected s.phase (ltb s.v s.n))))

-- the text is read into 64 times 63 zeros
unfoldable pub made_of : List ℕ → Here
unfolding text_read
made_of text = text_read text (replicate 4032 0)

abbrev pub numbers : Result ℕ Fault → ℕ
numbers (Ok n) = 63 * n
numbers (Err fault) = 0

-- 9: "room lent too short"
abbrev pub or_short : ℕ → Result ℕ Fault → Result ℕ Fault
or_short room m = cond (ltb room (numbers m)) (Err Room) m

-- the answer for a text and a room of so many numbers
unfoldable pub made : List ℕ → ℕ → Result ℕ Fault
unfolding answer_of made_of
made text room = or_short room (answer_of (made_of text).spot)

-- the room after it: the table in its first numbers and the rest kept; where there is none all is kept
unfoldable pub leaves : List ℕ → List ℕ → List ℕ
unfolding made made_of
leaves text room =
    let k = numbers (made text (length room)) in
    take k (made_of text).table ++ drop k room

-- the table that a text is
unfoldable pub table_in : List ℕ → List ℕ
unfolding answer_of made_of
table_in text = take (numbers (answer_of (made_of text).spot)) (made_of text).table
