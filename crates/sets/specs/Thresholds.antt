-- The slices of a table of thresholds: as an FBQS of the paper, and as the three tests that everything above asks of a table.
use Rattle.std.specs.Prelude.{ℕ, ◌^◌, Bool, true, ◌&&◌, ◌||◌, not, List, ◌≡◌, eqb, ltb}
use Rattle.std.specs.Int.Bits.{bit_and}
use Rattle.ground.specs.Pieces.{part}
use Rattle.ground.specs.Search.{some, every}
use Rattle.masks.specs.Mask.{has, within, minus, others, all_below, ◌⊆◌}
use Rattle.sets.specs.Paper.{Fbqs}
use Rattle.sets.specs.Slices.{Slices}
use Rattle.threshold_block.specs.Block.{sets_in}
use Rattle.threshold_sets.specs.Met.{root_met}

-- "A site has a slice inside U if U contains the site and its root set is met by U": of the n sites that the image has
unfoldable pub holds_slice : List ℕ → ℕ → ℕ → ℕ → Bool
unfolding root_met
holds_slice image n v u = ltb v n && (has u v && root_met (sets_in (part 512 v image)) u)

-- "all such U are its slices": as the paper's pair
abbrev pub fbqs_of_thresholds : List ℕ → ℕ → Fbqs
fbqs_of_thresholds image n = record { sites = all_below n; Slice = λ v q. (holds_slice image n v q ≡ true) × (q ⊆ all_below n) }

-- the answers of a table of thresholds
unfoldable pub thresholds_of : List ℕ → ℕ → Slices
unfolding holds_slice some every
thresholds_of image n = record {
  inside = holds_slice image n;
  deleted = λ b v u. not (has b v) && some (2 ^ n) (λ q. holds_slice image n v q && within (minus q b) u);
  blocked = λ v w. every (2 ^ n) (λ q. not (holds_slice image n v q) || not (eqb (bit_and q (others w v)) 0));
}
