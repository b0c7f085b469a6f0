-- One site's slices, wherever they are kept: how many there are, which, and whether what is left of the room is zero. What is refused of them is said
-- once, for the table in memory and for the table on file. The owner is the site whose slices they are, the place what a refusal carries: "the block or
-- site number".
use Rattle.std.specs.Prelude.{ℕ, ◌-◌, Bool, ◌&&◌, ◌||◌, not, eqb, ltb}
use Rattle.masks.specs.Mask.{has, within, all_below}
use Rattle.refusals.specs.First.{or_else, refuse, first}
use Rattle.refusals.specs.Check.{Check}
use Rattle.refusals.specs.declared.Refusal.TheVariants.{Count, Slice, Order, Filler}

-- 5: "a slice lacks its owner or names a site at or above n"
unfoldable pub strange : ℕ → ℕ → ℕ → Bool
strange n owner q = not (has q owner) || not (within q (all_below n))

-- 6: "a slice not above the one before"; the first has none before it
unfoldable pub unordered : (ℕ → ℕ) → ℕ → Bool
unordered slice k = not (eqb k 0) && not (ltb (slice (k - 1)) (slice k))

-- "each slice 5 then 6": the owner's slice k in a table of n sites
unfoldable pub slice_check : ℕ → ℕ → ℕ → (ℕ → ℕ) → ℕ → Check
unfolding strange unordered
slice_check n owner place slice k = or_else (refuse (strange n owner (slice k)) (Slice place)) (refuse (unordered slice k) (Order place))

-- "4, each slice 5 then 6, then 8": 4 is "slice count 0 or over 62", 8 "filler or an unused place not zero"; what is refused of a slice is handed over
unfoldable pub row_check : (ℕ → Check) → ℕ → ℕ → Bool → Check
unfolding first
row_check each place count unfilled =
    or_else (refuse (eqb count 0 || ltb 62 count) (Count place))
    (or_else (first each count)
    (refuse unfilled (Filler place)))
