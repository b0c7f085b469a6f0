-- Lists made of pieces, and the pieces of a list.
use Rattle.std.specs.Prelude.{ℕ, zero, suc, ◌*◌, List, [], ◌++◌, take, drop}

-- f 0, f 1, .. f (n - 1), one after the other
unfoldable pub cat : (ℕ → List ℕ) → ℕ → List ℕ
cat f zero = []
cat f (suc n) = cat f n ++ f n

-- piece i of a list cut into pieces of w
abbrev pub part : ℕ → ℕ → List ℕ → List ℕ
part w i l = take w (drop (w * i) l)
