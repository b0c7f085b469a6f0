-- What the functions of a reading ask of the numbers: every set has fewer than k inner sets.
use Rattle.std.specs.Prelude.{ℕ, ◌<◌, List, get_or}
use Rattle.threshold_reading.specs.Lines.{inner_at}

abbrev pub Few : ℕ → List ℕ → Type 0
Few k t = (u i : ℕ) → i < 49 → get_or t (inner_at u i) 0 < k
