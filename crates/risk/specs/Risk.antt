-- What is at stake when sites break, as it is computed, of n sites with these slices.
use Rattle.std.specs.Prelude.{ℕ, ◌^◌, Bool, ◌&&◌}
use Rattle.std.proofs.Math.Dec.{eqb}
use Rattle.ground.specs.Search.{some, least}
use Rattle.masks.specs.Mask.{single, minus, others, all_below, size}
use Rattle.sets.specs.Slices.{Slices}
use Rattle.verdicts.specs.Verdicts.{intact}

module _ (r : Slices) (n : ℕ) where
  -- "how many other sites are befouled if it alone is faulty"
  unfoldable pub taken_along : ℕ → ℕ
  unfolding intact
  taken_along v = size (others (minus (all_below n) (intact r n (single v))) v)

  -- with these sites faulty nobody is intact
  unfoldable pub ruinous : ℕ → Bool
  unfolding intact
  ruinous F = eqb (intact r n F) 0

  -- some set of k faulty sites is such
  unfoldable pub ruined_by : ℕ → Bool
  unfolding some ruinous
  ruined_by k = some (2 ^ n) (λ F. eqb (size F) k && ruinous F)

  -- "the fewest faulty sites that leave nobody intact (0 if nobody is intact at all)"; all n together are such
  unfoldable pub fewest : ℕ
  unfolding least ruined_by
  fewest = least n ruined_by

  -- "the lowest such set as a number"
  unfoldable pub first_ruin : ℕ
  unfolding least ruinous fewest
  first_ruin = least (2 ^ n) (λ F. eqb (size F) fewest && ruinous F)
