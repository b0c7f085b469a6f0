-- `load_masks` meets its contract: after i turns the room holds the count and the first i masks.
use Prim.Native.Nat.{◌+◌, ◌≤◌}
use mathlib.Core.List.{◌++◌}
use mathlib.Core.Path.{◌≡◌}
use lib.ListN.{length, drop}
use Rattle.threshold_row.specs.Inner.Row.{masks_of}
use Rattle.threshold_row.proofs.load_masks.Given as goal

abbrev pub invariant-loop-i : goal.invariant-loop-i
invariant-loop-i l =
    (l.i ≤ 49) × (length l.initial.m ≡ 63) × (length l.m ≡ 63) × (l.m ≡ masks_of l.b l.i ++ drop (1 + l.i) l.initial.m)
