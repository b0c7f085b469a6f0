-- One block of a table of thresholds: "per site one block with 01's header and check, bytes 4 to 5 now the number of sets, 1 to 49, and then sets of ten bytes
-- in preorder: threshold, number of inner sets, mask of plain sites".
use Rattle.refusals.specs.Check.{Check}
use Rattle.std.specs.Prelude.{ℕ, ◌+◌, ◌-◌, ◌*◌, Bool, not, List, eqb, get_or}
use Rattle.block.specs.Block.{sealed}
use Rattle.ground.specs.Search.{some}
use Rattle.le.specs.Le.{field}
use Rattle.refusals.specs.First.{or_else, refuse}
use Rattle.refusals.specs.declared.Refusal.TheVariants.{Sums, Header}
use Rattle.site_block.specs.Block.{count_field, misheaded}
use Rattle.threshold_sets.specs.Check.{sets_check}
use Rattle.threshold_sets.specs.Met.{ThresholdSets}

-- the sets that a block holds
abbrev pub sets_in : List ℕ → ThresholdSets
sets_in b = record {
  count = count_field b;
  threshold = λ i. get_or b (8 + 10 * i) 0;
  inner = λ i. get_or b (9 + 10 * i) 0;
  plain = λ i. field 8 b (10 + 10 * i);
}

-- 8: "filler not zero": a byte behind the last set, 8 + 10 * count to 503
unfoldable pub sets_unfilled : List ℕ → Bool
unfolding some
sets_unfilled b = let from = 8 + 10 * count_field b in some (504 - from) (λ j. not (eqb (get_or b (from + j) 0) 0))

-- block by block 2, 3, 4, set by set 5, 21, 22, then 22 and 8: the block b of a site in a table of n sites; a refusal carries the place
unfoldable pub threshold_block_check : ℕ → ℕ → ℕ → List ℕ → Check
unfolding misheaded sets_check sets_unfilled
threshold_block_check n site place b =
    or_else (refuse (not (sealed b)) (Sums place))
    (or_else (refuse (misheaded n site b) (Header place))
    (sets_check n place (sets_in b) (sets_unfilled b)))
