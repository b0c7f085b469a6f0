-- `has_call` meets its contract: none of the calls so far is this one.
use mathlib.Core.Bool.{false}
use mathlib.Core.Path.{◌≡◌}
use Rattle.ground.specs.Search.{some}
use Rattle.same_calls.specs.Same.{is_call}
use Rattle.same_calls.proofs.has_call.Given as goal

abbrev pub invariant-loop-i : goal.invariant-loop-i
invariant-loop-i l =
    some l.i (λ j. is_call l.list j l.kind l.from l.to l.side) ≡ false
