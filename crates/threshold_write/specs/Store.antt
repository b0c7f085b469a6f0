-- One block of a table of thresholds as it is written: "then sets of ten bytes in preorder: threshold, number of inner sets, mask of plain sites".
use Rattle.std.specs.Prelude.{ℕ, List, ◌++◌}
use Rattle.block.specs.Block.{seal}
use Rattle.ground.specs.Pieces.{cat}
use Rattle.le.specs.Le.{digits}
use Rattle.site_block.specs.Block.{head}
use Rattle.threshold_sets.specs.Met.{ThresholdSets}

-- ten bytes a set
abbrev pub set_bytes : ThresholdSets → ℕ → List ℕ
set_bytes S i = digits 1 (S.threshold i) ++ (digits 1 (S.inner i) ++ digits 8 (S.plain i))

-- the first k of a site's 49 places for sets, of which the unused are zero
unfoldable pub set_places : ThresholdSets → ℕ → List ℕ
set_places S k = cat (set_bytes S) k

-- the block of site v with the sets S, in a table of n sites: its first 504 bytes, "zeros up to byte 503", and the block with its check
unfoldable pub sets_body : ℕ → ℕ → ThresholdSets → List ℕ
unfolding set_places
sets_body n v S = head v n S.count ++ (set_places S 49 ++ digits 6 0)

unfoldable pub store_sets : ℕ → ℕ → ThresholdSets → List ℕ
unfolding sets_body
store_sets n v S = seal (sets_body n v S)
