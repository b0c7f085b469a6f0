-- `covers` meets its contract: every call so far is one of the second list.
use Prim.Native.Nat.{◌/◌}
use mathlib.Core.Bool.{true}
use mathlib.Core.Path.{◌≡◌}
use lib.ListN.{length}
use Rattle.ground.specs.Search.{every}
use Rattle.same_calls.specs.Same.{has_that}
use Rattle.same_calls.proofs.covers.Given as goal

abbrev pub invariant-loop-i : goal.invariant-loop-i
invariant-loop-i l =
    every l.i (has_that (length l.b / 4) l.b l.a) ≡ true
