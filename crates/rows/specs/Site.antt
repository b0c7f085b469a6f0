-- One site of the table in memory: "a site takes 63 64-bit numbers: the count, then 62 places, unused ones zero."
use Rattle.std.specs.Prelude.{ℕ, ◌+◌, ◌-◌, Bool, not, List, eqb, get_or}
use Rattle.ground.specs.Search.{some}
use Rattle.refusals.specs.Check.{Check}
use Rattle.rows.specs.Row.{slice_check, row_check}

-- of the 63 numbers of a site: the count of its slices, and place i
abbrev pub count : List ℕ → ℕ
count m = get_or m 0 0

abbrev pub slice : List ℕ → ℕ → ℕ
slice m i = get_or m (1 + i) 0

-- an unused place is not zero
unfoldable pub row_unfilled : List ℕ → Bool
unfolding some
row_unfilled m = some (62 - count m) (λ j. not (eqb (slice m (count m + j)) 0))

-- the owner's 63 numbers m in a table of n sites
unfoldable pub site_check : ℕ → ℕ → ℕ → List ℕ → Check
unfolding row_check slice_check row_unfilled
site_check n owner place m = row_check (slice_check n owner place (slice m)) place (count m) (row_unfilled m)
