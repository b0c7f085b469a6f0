-- The lines that the programs print: "every line ends with a newline".
use Rattle.std.specs.Prelude.{ℕ, List, ◌++◌}
use Rattle.text.specs.Text.{ascii, mask}

abbrev pub newline : List ℕ
newline = ascii "\n"

-- a word, and what is said of it
unfoldable pub line : List ℕ → List ℕ → List ℕ
line word said = word ++ (said ++ newline)

-- a word, and two masks: drill, then live
unfoldable pub sides : List ℕ → ℕ → ℕ → List ℕ
unfolding line mask
sides word drill live = line word (mask drill ++ (ascii " " ++ mask live))
