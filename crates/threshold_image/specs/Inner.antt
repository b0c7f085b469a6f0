-- The rows of a table of thresholds, as the functions inside see it.
use Rattle.std.specs.Prelude.{ℕ, List}
use Rattle.ground.specs.Pieces.{cat, part}
use Rattle.threshold_row.specs.Inner.Row.{sets_row}

unfoldable pub rows_of : ℕ → List ℕ → List ℕ
unfolding sets_row
rows_of n image = cat (λ i. sets_row (part 512 i image)) n
