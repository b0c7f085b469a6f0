-- What a function says of some sets.
use Rattle.std.specs.Prelude.{ℕ, ◌≡◌}
use Rattle.threshold_sets.specs.Met.{AfterSets}

pub record Tells (met next : ℕ) (a : AfterSets) : Type 0 where
  pub met-so : met ≡ a.met
  pub next-so : next ≡ a.next
