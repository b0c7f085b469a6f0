-- Families of sets of at most 12 sites: 64 words, in which the set w * 64 + j is bit j of word w. So a word is a set of the sites 6 to 11, as its number says,
-- with each set of the first six.
use Rattle.std.specs.Prelude.{ℕ, ◌+◌, ◌*◌, ◌/◌, ◌%◌, ◌<◌, ◌≤◌, Bool, false, not, List, ◌≡◌, length, get_or}
use Rattle.masks.specs.Mask.{has, within, ◌∈◌}

-- the words say p of every set
pub record Says (p : ℕ → Bool) (words : List ℕ) : Type 0 where
  pub long : length words ≡ 64
  pub each : (w j : ℕ) → w < 64 → j < 64 → has (get_or words w 0) j ≡ p (w * 64 + j)

-- what words say of a set
unfoldable pub in_family : List ℕ → ℕ → Bool
in_family words s = has (get_or words (s / 64) 0) (s % 64)

-- the words below k say p, the others are as they were
pub record Written (p : ℕ → Bool) (old : List ℕ) (k : ℕ) (words : List ℕ) : Type 0 where
  pub long : length words ≡ 64
  pub below : (w j : ℕ) → w < k → j < 64 → has (get_or words w 0) j ≡ p (w * 64 + j)
  pub above : (w : ℕ) → k ≤ w → get_or words w 0 ≡ get_or old w 0

-- of the sets of the first six sites those without site x
pub record Without (x word : ℕ) : Type 0 where
  pub each : (j : ℕ) → j < 64 → has word j ≡ not (has j x)

-- the sets of word w without site v
pub record Lacking (v w word : ℕ) : Type 0 where
  pub each : (j : ℕ) → j < 64 → has word j ≡ not (has (w * 64 + j) v)

-- word i of a list, for i below k, has the sets of the first six sites that contain i
pub record Above (k : ℕ) (list : List ℕ) : Type 0 where
  pub long : length list ≡ 64
  pub each : (i j : ℕ) → i < k → j < 64 → has (get_or list i 0) j ≡ within i j

-- the first member of a word, and the last
pub record FirstSet (word j : ℕ) : Type 0 where
  pub below : j < 64
  pub member : j ∈ word
  pub before : (y : ℕ) → y < j → has word y ≡ false

pub record LastSet (word j : ℕ) : Type 0 where
  pub below : j < 64
  pub member : j ∈ word
  pub behind : (y : ℕ) → j < y → has word y ≡ false
