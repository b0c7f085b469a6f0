-- The examples marked P hold: the checker computes each.
use mathlib.Core.Bool.{true}
use mathlib.Core.Path.{◌≡◌, refl}
use Rattle.run.specs.Examples.{all, examples}

pub examples-hold : all examples ≡ true
unfolding examples
examples-hold = refl
