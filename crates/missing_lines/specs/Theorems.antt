-- What the lines say of a list, by the definition of a complete one.
use Rattle.std.specs.Prelude.{ℕ, true, List, [], ◌↔◌, ◌≡◌}
use Rattle.call_lines.specs.CallLine.{side_name}
use Rattle.lines.specs.Lines.{line}
use Rattle.liveness.specs.Complete.{is_complete}
use Rattle.missing_lines.specs.Missing.{missing_lines, side_lines}
use Rattle.text.specs.Text.{ascii}

-- no line of a missing call stands there exactly if none is missing
abbrev pub NoneMissing : Type 0
NoneMissing = (n among side : ℕ) (list : List ℕ) (accepters : ℕ) →
    (missing_lines n among side list accepters ≡ []) ↔ (is_complete n among side list accepters ≡ true)

-- and `complete drill`, `complete live` stands there exactly if none is
abbrev pub CompleteSaid : Type 0
CompleteSaid = (n among side : ℕ) (list : List ℕ) (accepters : ℕ) →
    (side_lines n among side list accepters ≡ line (ascii "complete ") (side_name side)) ↔ (is_complete n among side list accepters ≡ true)
