-- A file that was fetched into a room.
use Rattle.std.specs.Prelude.{ℕ, List, Option, Some, None}
use Rattle.io.specs.Counts.{IsPrefixLen}

-- the bytes of the file stand at the start of the room; of a file that cannot be used nothing is said
abbrev pub fetched_bytes : Option ℕ → List ℕ → Type 0
fetched_bytes (Some n) room = IsPrefixLen n room
fetched_bytes None room = Unit {0}
