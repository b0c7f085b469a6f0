-- What is printed of a refusal.
use Rattle.std.specs.Prelude.{ℕ, List, ◌++◌}
use Rattle.leaflet.specs.Leaflet.{meaning}
use Rattle.lines.specs.Lines.{line}
use Rattle.refusals.specs.Refusal.{number, place}
use Rattle.refusals.specs.declared.Refusal.{Refusal}
use Rattle.text.specs.Text.{ascii, decimal}

-- "A refusal prints the single line `refused N K`, K the block or 0."
unfoldable pub refused : Refusal → List ℕ
unfolding line decimal
refused r = line (ascii "refused ") (decimal (number r) ++ (ascii " " ++ decimal (place r)))

-- at the desk a second line says what the number means
unfoldable pub explained : Refusal → List ℕ
unfolding refused
explained r = refused r ++ line (ascii (meaning r)) (ascii "")
