-- What the search for intact sites carries.
use Rattle.std.specs.Prelude.{ℕ, ◌^◌, ◌<◌, true, ◌≡◌}
use Rattle.masks.specs.Mask.{minus, all_below, ◌⊆◌}
use Rattle.sets.specs.Slices.{Slices}
use Rattle.verdicts.specs.Verdicts.{dispensable, intact}

-- of the intact sites set has those that the sets below b give: no others, and the sites outside each dispensable set that contains f
pub record Gathered (r : Slices) (n f b set : ℕ) : Type 0 where
  pub sound : set ⊆ intact r n f
  pub complete : (c : ℕ) → c < b → c < 2 ^ n → f ⊆ c → dispensable r n c ≡ true → minus (all_below n) c ⊆ set
