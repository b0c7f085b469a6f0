-- A table as text: `sites N`, then a line a site, its groups ascending as they stand in the table, their sites ascending.
use Rattle.std.specs.Prelude.{ℕ, cond, List, [], ◌++◌, eqb, length}
use Rattle.ground.specs.Pieces.{cat}
use Rattle.members.specs.Members.{members}
use Rattle.table.specs.Table.{site_of, sites}
use Rattle.rows.specs.Site.{count, slice}
use Rattle.text.specs.Text.{ascii, decimal}

-- group k of a site, parted from the one before
unfoldable pub placed : List ℕ → ℕ → List ℕ
unfolding members
placed m k = cond (eqb k 0) [] (ascii " |") ++ members (slice m k)

-- the line of site v, with its 63 numbers
unfoldable pub row : ℕ → List ℕ → List ℕ
unfolding cat placed
row v m = decimal v ++ (ascii ":" ++ (cat (placed m) (count m) ++ ascii "\n"))

-- the whole table
unfoldable pub rows : List ℕ → ℕ → List ℕ
unfolding cat row
rows t n = cat (λ v. row v (site_of t v)) n

unfoldable pub head_line : ℕ → List ℕ
head_line n = ascii "sites " ++ (decimal n ++ ascii "\n")

unfoldable pub show : List ℕ → List ℕ
unfolding head_line rows
show t = head_line (sites (length t)) ++ rows t (sites (length t))
