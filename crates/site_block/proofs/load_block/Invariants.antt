-- `load_block` meets its contract: after k turns the room holds the count and the first k places of the block.
use Prim.Native.Nat.{◌+◌, ◌≤◌}
use mathlib.Core.List.{◌++◌}
use mathlib.Core.Path.{◌≡◌}
use lib.ListN.{length, drop}
use Rattle.site_block.proofs.Load.{load_to}
use Rattle.site_block.proofs.load_block.Given as goal

abbrev pub invariant-loop-k : goal.invariant-loop-k
invariant-loop-k l =
    (l.k ≤ 62) × (length l.initial.m ≡ 63) × (length l.m ≡ 63) × (l.m ≡ load_to l.b l.k ++ drop (1 + l.k) l.initial.m)
