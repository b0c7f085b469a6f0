-- The order of refusals at one site, by example: "each slice 5 then 6". The owner is 0, the place 7.
use mathlib.Core.Bool.{false}
use mathlib.Core.List.{[], ◌∷◌}
use mathlib.Core.Path.{◌≡◌, refl}
use lib.ListN.{get_or}
use Rattle.masks.specs.Mask.{has, within}
use Rattle.refusals.specs.First.{first}
use Rattle.std.specs.Prelude.{Err}
use Rattle.refusals.specs.declared.Refusal.TheVariants.{Slice, Order}
use Rattle.rows.specs.Row.{strange, unordered, slice_check, row_check}

-- the second slice is not above the first, and the third lacks its owner: 6
pub earlier-order : row_check (slice_check 2 0 7 (λ i. get_or (1 ∷ 1 ∷ 2 ∷ []) i 0)) 7 3 false ≡ Err (Order 7)
unfolding row_check first slice_check strange unordered has within
earlier-order = refl

-- the second slice lacks its owner and is not above the first: 5
pub owner-and-order : row_check (slice_check 2 0 7 (λ i. get_or (3 ∷ 2 ∷ []) i 0)) 7 2 false ≡ Err (Slice 7)
unfolding row_check first slice_check strange unordered has within
owner-and-order = refl
