-- What a text makes is a sound table.
use Rattle.std.specs.Prelude.{ℕ, ◌*◌, List, ◌≡◌, length, take, Ok}
use Rattle.table.specs.Table.{check, sites, Table}
use Rattle.table_made.specs.Made.{answer_of, made_of, made, leaves, table_in}

-- every text of every length that is answered with n sites is a sound table of n sites
abbrev pub MadeSound : Type 0
MadeSound = (text : List ℕ) (n : ℕ) → answer_of (made_of text).spot ≡ Ok n → Table (table_in text) n

-- of the public call, for every room: where it answers n sites, the room's first 63 n numbers are a table of n sites, and the check takes it
abbrev pub LeftSound : Type 0
LeftSound =
    (text room : List ℕ) (n : ℕ) → made text (length room) ≡ Ok n →
    (check (take (63 * n) (leaves text room)) ≡ Ok tt) × (sites (length (take (63 * n) (leaves text room))) ≡ n)
