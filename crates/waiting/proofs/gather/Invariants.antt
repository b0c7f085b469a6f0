-- `gather` meets its contract: the places before i are gathered.
use Prim.Native.Nat.{◌≤◌}
use mathlib.Core.Path.{◌≡◌}
use lib.ListN.{length}
use Rattle.waiting.specs.Inner.{Listed}
use Rattle.waiting.proofs.gather.Given as goal

abbrev pub invariant-loop-i : goal.invariant-loop-i
invariant-loop-i l =
    Listed l.answers 0 l.i l.waiting 0 l.count × (l.count ≤ l.i) × (length l.waiting ≡ length l.initial.waiting)
