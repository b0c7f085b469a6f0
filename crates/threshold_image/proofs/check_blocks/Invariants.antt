-- `check_blocks` meets its contract: the blocks before the place are sound, and a refusal is the first.
use Rattle.std.specs.Prelude.{Ok}
use Prim.Native.Nat.{◌≤◌}
use mathlib.Core.Path.{◌≡◌}
use Rattle.ground.specs.Pieces.{part}
use Rattle.threshold_block.specs.Block.{threshold_block_check}
use Rattle.refusals.specs.First.{first}
use Rattle.threshold_image.proofs.check_blocks.Given as goal

abbrev pub invariant-loop-place : goal.invariant-loop-place
invariant-loop-place l =
    (l.place ≤ l.n) × (first (λ j. threshold_block_check l.n j j (part 512 j l.image)) l.place ≡ Ok tt)
