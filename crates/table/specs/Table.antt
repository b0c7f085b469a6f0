-- The table in memory: "a site takes 63 64-bit numbers: the count, then 62 places, unused ones zero."
use Rattle.refusals.specs.Check.{Check}
use Rattle.std.specs.Prelude.{ℕ, suc, ◌*◌, ◌/◌, ◌%◌, ◌≤◌, ◌<◌, Bool, ◌||◌, not, List, ◌≡◌, eqb, ltb, length}
use Rattle.ground.specs.Pieces.{part}
use Rattle.masks.specs.Mask.{all_below, ◌∈◌, ◌⊆◌}
use Rattle.refusals.specs.First.{or_else, refuse, first}
use Rattle.refusals.specs.declared.Refusal.TheVariants.{Length}
use Rattle.rows.specs.Site.{count, slice, site_check}

-- the 63 numbers of site v in a table, the count of its slices, and its slice i
abbrev pub site_of : List ℕ → ℕ → List ℕ
site_of t v = part 63 v t

abbrev pub count_of : List ℕ → ℕ → ℕ
count_of t v = count (site_of t v)

abbrev pub slice_of : List ℕ → ℕ → ℕ → ℕ
slice_of t v i = slice (site_of t v) i

-- how many sites a table of so many numbers has
abbrev pub sites : ℕ → ℕ
sites length = length / 63

-- 1: "memory table not 63 numbers times 1 to 64"
unfoldable pub table_misshapen : ℕ → Bool
table_misshapen length = not (eqb (length % 63) 0) || (eqb (sites length) 0 || ltb 64 (sites length))

-- site by site, without the length; a refusal carries the site
unfoldable pub sites_check : ℕ → List ℕ → Check
unfolding site_check first
sites_check n t = first (λ v. site_check n v v (site_of t v)) n

-- "A table in memory is refused with 1, 4, 5, 6 or 8 by every public call that takes one."
unfoldable pub check : List ℕ → Check
unfolding table_misshapen sites_check
check t = or_else (refuse (table_misshapen (length t)) Length) (sites_check (sites (length t)) t)

-- What a sound table promises: "A table has n sites, 1 to 64. Each site has 1 to 62 slices. Every slice contains its owner and names no site at
-- or above n; a site's slices ascend strictly as numbers", and unused places are zero.
pub record Table (t : List ℕ) (n : ℕ) : Type 0 where
  pub long : length t ≡ 63 * n
  pub some-site : 1 ≤ n
  pub few-sites : n ≤ 64
  pub some-slice : (v : ℕ) → v < n → 1 ≤ count_of t v
  pub few-slices : (v : ℕ) → v < n → count_of t v ≤ 62
  pub owner : (v i : ℕ) → v < n → i < count_of t v → v ∈ slice_of t v i
  pub below : (v i : ℕ) → v < n → i < count_of t v → slice_of t v i ⊆ all_below n
  pub ascend : (v i : ℕ) → v < n → suc i < count_of t v → slice_of t v i < slice_of t v (suc i)
  pub unused : (v i : ℕ) → v < n → count_of t v ≤ i → i < 62 → slice_of t v i ≡ 0
