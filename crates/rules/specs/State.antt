-- The state of a vote: "a run of 4n + 6 64-bit numbers", read and added to at a place.
use Rattle.std.specs.Prelude.{ℕ, ◌+◌, ◌*◌, List, ◌≡◌, length, get_or, set}
use Rattle.std.specs.Int.Bits.{bit_or}
use Rattle.masks.specs.Mask.{◌⊆◌}

-- "per site the votes heard for drill, votes for live, accepts for drill, accepts for live; then the masks voted drill, voted live, accepted drill,
-- accepted live, confirmed drill, confirmed live": the place of each, by side (0 drill, 1 live)
abbrev pub votes : ℕ → ℕ → ℕ
votes side v = 4 * v + side

abbrev pub accepts : ℕ → ℕ → ℕ
accepts side v = 4 * v + 2 + side

abbrev pub voted : ℕ → ℕ → ℕ
voted n side = 4 * n + side

abbrev pub accepted : ℕ → ℕ → ℕ
accepted n side = 4 * n + 2 + side

abbrev pub confirmed : ℕ → ℕ → ℕ
confirmed n side = 4 * n + 4 + side

abbrev pub width : ℕ → ℕ
width n = 4 * n + 6

-- the set at a place, and the state with the sites of m put into it
abbrev pub get : List ℕ → ℕ → ℕ
get s i = get_or s i 0

unfoldable pub add : ℕ → ℕ → List ℕ → List ℕ
add i m s = set s i (bit_or (get s i) m)

-- one state lies below another: it is as long, and at every place has no site that the other has not
pub record Below (s t : List ℕ) : Type 0 where
  pub long : length s ≡ length t
  pub each : (i : ℕ) → get s i ⊆ get t i
