-- A set as its sites, ascending, each with a blank before it.
use Rattle.std.specs.Prelude.{ℕ, cond, List, [], ◌++◌}
use Rattle.ground.specs.Pieces.{cat}
use Rattle.masks.specs.Mask.{has}
use Rattle.text.specs.Text.{ascii, decimal}

-- site u with a blank before it, if it is in the set
unfoldable pub site_shown : ℕ → ℕ → List ℕ
site_shown set u = cond (has set u) (ascii " " ++ decimal u) []

-- the sites of the set
unfoldable pub members : ℕ → List ℕ
unfolding cat site_shown
members set = cat (site_shown set) 64
