-- What is proved of the check of a table in memory.
use Rattle.std.specs.Prelude.{ℕ, List, ◌↔◌, ◌≡◌, length, Ok}
use Rattle.table.specs.Table.{check, sites, Table}

-- the check takes exactly the sound tables: it refuses nothing else, and nothing else gets through
abbrev pub CheckExact : Type 0
CheckExact = (t : List ℕ) → (check t ≡ Ok tt) ↔ Table t (sites (length t))
