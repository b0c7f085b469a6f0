-- `load_row` meets its contract: the count and the masks, and after k turns k numbers of pairs; the last set has a number of its own.
use Prim.Native.Nat.{◌+◌, ◌≤◌}
use mathlib.Core.List.{◌++◌}
use mathlib.Core.Path.{◌≡◌}
use lib.ListN.{length, drop}
use Rattle.threshold_row.proofs.Load.{pairs_to}
use Rattle.threshold_row.proofs.load_row.Given as goal

abbrev pub invariant-loop-k : goal.invariant-loop-k
invariant-loop-k l =
    (l.k ≤ 12) × (length l.initial.m ≡ 63) × (length l.m ≡ 63) × (l.m ≡ pairs_to l.b l.k ++ drop (50 + l.k) l.initial.m)
