-- `put_places` meets its contract: after k turns the first k places stand behind byte 7.
use Prim.Native.Nat.{◌+◌, ◌*◌, ◌≤◌}
use mathlib.Core.List.{◌++◌}
use mathlib.Core.Path.{◌≡◌}
use lib.ListN.{length, take, drop}
use Rattle.site_block.specs.Block.{places}
use Rattle.site_write.proofs.put_places.Given as goal

abbrev pub invariant-loop-j : goal.invariant-loop-j
invariant-loop-j l =
    (l.j ≤ 62) × (length l.b ≡ 512) × (l.b ≡ (take 8 l.initial.b ++ places l.m l.j) ++ drop (8 + 8 * l.j) l.initial.b)
