-- What is listed makes the same calls, byte for byte.
use Rattle.std.specs.Prelude.{ℕ, false, List, Ok, ◌≡◌, length}
use Rattle.calls_listed.specs.Listed.{list_text}
use Rattle.calls_text.specs.Reading.{read_text}
use Rattle.le.specs.Le.{Bytes as AreBytes}
use Rattle.run.specs.Run.{list_misshapen}

-- every list of bytes of a right length, whatever its calls are: `desk calls` makes of what `desk list` prints of it the list itself
abbrev pub ListThenRead : Type 0
ListThenRead =
    (list : List ℕ) → AreBytes list → list_misshapen (length list) ≡ false →
    ((read_text (list_text list)).answer ≡ Ok (length list)) × ((read_text (list_text list)).bytes ≡ list)
