-- "The mark of a site is 1 (drill) exactly if it has confirmed drill and not live; else 0 (live). It is worked from a site number and the two
-- confirmed masks, for sites 0 to 63." A site above 63 is 11.
use Rattle.std.specs.Prelude.{ℕ, ◌&&◌, not, cond, ltb}
use Rattle.masks.specs.Mask.{has}

unfoldable pub mark : ℕ → ℕ → ℕ → ℕ
mark site drill live = cond (ltb 63 site) 11 (cond (has drill site && not (has live site)) 1 0)
