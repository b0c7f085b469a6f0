-- The slices of a table: as an FBQS of the paper, and as the three tests that everything above asks of a table.
use Rattle.std.specs.Prelude.{ℕ, ◌<◌, Bool, ◌&&◌, not, List, ◌≡◌, eqb}
use Rattle.std.specs.Int.Bits.{bit_and}
use Rattle.ground.specs.Search.{some, every}
use Rattle.masks.specs.Mask.{has, within, minus, others, all_below}
use Rattle.sets.specs.Paper.{Fbqs}
use Rattle.table.specs.Table.{count_of, slice_of}

-- the table as the paper's pair: its n sites, and for each site the slices that its row lists
abbrev pub fbqs_of : List ℕ → ℕ → Fbqs
fbqs_of t n = record { sites = all_below n; Slice = λ v q. (i : ℕ) × (i < count_of t v) × (q ≡ slice_of t v i) }

-- what a table of whichever form answers of its slices
pub record Slices : Type 0 where
  -- site v has some slice inside u
  pub inside : ℕ → ℕ → Bool
  -- "Deleting B: the sites outside B stay, and every slice loses the members of B": site v stays and has some slice inside u then
  pub deleted : ℕ → ℕ → ℕ → Bool
  -- "A set blocks site v if it meets every slice of v", and "the owner's bit is taken out of the set before it is compared": site v is blocked by w
  pub blocked : ℕ → ℕ → Bool

-- the answers of a table in memory
unfoldable pub slices_of : List ℕ → Slices
unfolding some every
slices_of t = record {
  inside = λ v u. some (count_of t v) (λ i. within (slice_of t v i) u);
  deleted = λ b v u. not (has b v) && some (count_of t v) (λ i. within (minus (slice_of t v i) b) u);
  blocked = λ v w. every (count_of t v) (λ i. not (eqb (bit_and (slice_of t v i) (others w v)) 0));
}
