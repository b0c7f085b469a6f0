-- `blocks_listed` meets its contract: the others of w meet each slice before i.
use Prim.Native.Nat.{◌≤◌}
use mathlib.Core.Bool.{true, not}
use mathlib.Core.Path.{◌≡◌}
use lib.Bits.{bit_and}
use lib.Dec.{eqb}
use Rattle.ground.specs.Search.{every}
use Rattle.masks.specs.Mask.{others}
use Rattle.table.specs.Table.{slice_of}
use Rattle.sets.proofs.blocks_listed.Given as goal

abbrev pub invariant-loop-i : goal.invariant-loop-i
invariant-loop-i l =
    (l.many ≤ 62) × (l.others ≡ others l.w l.v) × (every l.i (λ k. not (eqb (bit_and (slice_of l.table l.v k) (others l.w l.v)) 0)) ≡ true)
