-- All that is printed of what a list lacks.
use Rattle.std.specs.Prelude.{ℕ, Bool, List, ◌++◌}
use Rattle.missing_lines.specs.Missing.{side_lines, unmet}

-- the lines of n sites, from the mask of the intact, from whether the table meets, and from the masks of those that accepted drill and live
abbrev pub lines_of : ℕ → ℕ → Bool → List ℕ → ℕ → ℕ → List ℕ
lines_of n whole meet list drill live = unmet meet ++ (side_lines n whole 0 list drill ++ side_lines n whole 1 list live)
