-- The accept calls between intact sites that a list lacks, as lines.
use Rattle.std.specs.Prelude.{ℕ, Bool, cond, List, [], ◌++◌}
use Rattle.call_lines.specs.CallLine.{side_name}
use Rattle.ground.specs.Pieces.{cat}
use Rattle.lines.specs.Lines.{line}
use Rattle.liveness.specs.Complete.{lacks, is_complete}
use Rattle.text.specs.Text.{ascii, decimal}

-- "one a line (side, from, to)": nothing where the call from u to v is not missing
unfoldable pub missing_line : ℕ → ℕ → List ℕ → ℕ → ℕ → ℕ → List ℕ
unfolding lacks line side_name decimal
missing_line among side list accepters u v =
    cond (lacks among side list accepters u v) (line (side_name side ++ ascii " ") (decimal u ++ (ascii " " ++ decimal v))) []

-- of n sites, by sender, then by receiver
unfoldable pub missing_from : ℕ → ℕ → ℕ → List ℕ → ℕ → ℕ → List ℕ
unfolding cat missing_line
missing_from n among side list accepters u = cat (missing_line among side list accepters u) n

unfoldable pub missing_lines : ℕ → ℕ → ℕ → List ℕ → ℕ → List ℕ
unfolding cat missing_from
missing_lines n among side list accepters = cat (missing_from n among side list accepters) n

-- ".. or `complete drill`, `complete live`"
unfoldable pub side_lines : ℕ → ℕ → ℕ → List ℕ → ℕ → List ℕ
unfolding is_complete line side_name missing_lines
side_lines n among side list accepters =
    cond (is_complete n among side list accepters) (line (ascii "complete ") (side_name side)) (missing_lines n among side list accepters)

-- where the table does not meet, a complete list promises nothing of marks: the line that a verdict has then stands before the others
abbrev pub unmet : Bool → List ℕ
unmet meet = cond meet [] (line (ascii "meet ") (ascii "no"))
