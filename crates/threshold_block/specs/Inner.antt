-- The open levels of a block's sets, as the check keeps them.
use Rattle.std.specs.Prelude.{ℕ, zero, suc, List, [], ◌∷◌, get_or}

-- the first d numbers, the last of them the innermost
unfoldable pub opened : List ℕ → ℕ → List ℕ
opened a zero = []
opened a (suc d) = get_or a d 0 ∷ opened a d
