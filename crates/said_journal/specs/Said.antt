-- What a call from C or Rust says of each answer about a journal: a refusal as `told`, anything else as `given`.
use Rattle.std.specs.Prelude.{[], ◌∷◌, Option, Some, None, Ok, Err}
use Rattle.journal.specs.declared.Size.{Size}
use Rattle.journal_next.specs.declared.Next.{Next}
use Rattle.le.specs.Le as Le
use Rattle.refusals.specs.Check.{Answer}
use Rattle.telling.specs.Telling.{Said, told, given}

-- the blocks and the calls of a journal
abbrev pub of_checked : Answer Size → Said
of_checked (Ok size) = given size.blocks size.calls 0
of_checked (Err r) = told r

-- one call, its four bytes as a little-endian number, and the next place; three zeros if none is left
abbrev pub of_next : Option Next → Said
of_next (Some call) = given 1 (Le.number (call.kind ∷ call.from ∷ call.to ∷ call.side ∷ [])) call.place
of_next None = given 0 0 0

-- the call at a place: the refusals of the check come first
abbrev pub of_taken : Answer Size → Option Next → Said
of_taken (Ok _) x = of_next x
of_taken (Err r) x = told r
