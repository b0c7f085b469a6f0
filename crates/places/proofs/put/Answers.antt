-- `put` meets its contract: it writes what `add` says.
use mathlib.Core.Path.{refl}
use Rattle.rules.specs.State.{add}
use Rattle.places.proofs.put.Goals as goal

pub returns : goal.returns
unfolding add
returns c =
    refl
