-- What is shown of a table makes the same table.
use Rattle.std.specs.Prelude.{ℕ, ◌≤◌, List, ◌++◌, ◌≡◌, length, drop, Ok}
use Rattle.table.specs.Table.{check, sites}
use Rattle.table_made.specs.Made.{answer_of, made_of, made, leaves, table_in}
use Rattle.table_shown.specs.Show.{show}

-- every sound table: the text that it is shown as is answered with its number of sites, and is that table, number for number
abbrev pub ShowThenMake : Type 0
ShowThenMake =
    (t : List ℕ) → check t ≡ Ok tt → (answer_of (made_of (show t)).spot ≡ Ok (sites (length t))) × (table_in (show t) ≡ t)

-- of the public call, for every room that is long enough: the table stands in its first numbers, and the rest is kept
abbrev pub ShowThenLeft : Type 0
ShowThenLeft =
    (t room : List ℕ) → check t ≡ Ok tt → length t ≤ length room →
    (made (show t) (length room) ≡ Ok (sites (length t))) × (leaves (show t) room ≡ t ++ drop (length t) room)
