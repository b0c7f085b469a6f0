-- `check_blocks` meets its contract: the blocks before the place are sound, and a refusal is the first.
use mathlib.Core.Path.{◌≡◌}
use Rattle.ground.specs.Pieces.{part}
use Rattle.journal_block.specs.Block.{journal_block_check}
use Rattle.refusals.specs.First.{first}
use Rattle.std.specs.Prelude.{Ok}
use Rattle.journal_blocks.proofs.check_blocks.Given as goal

abbrev pub invariant-loop-place : goal.invariant-loop-place
invariant-loop-place l =
    first (λ j. journal_block_check l.k j (part 512 j l.journal)) l.place ≡ Ok tt
