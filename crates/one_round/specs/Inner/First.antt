-- The first member of a set that is not empty: the zeros below it say which it is.
use Rattle.std.specs.Prelude.{ℕ}
use Rattle.std.specs.Int.Count.{count_trailing_zeros}

abbrev pub lowest : ℕ → ℕ
lowest m = count_trailing_zeros 64 m
