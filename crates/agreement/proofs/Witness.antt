-- Each premise is needed: the checker computes the runs.
use mathlib.Core.Path.{refl}
use Rattle.agreement.specs.Witness.{premises_needed, PremisesNeeded}

pub premises-needed : PremisesNeeded
unfolding premises_needed
premises-needed = refl
