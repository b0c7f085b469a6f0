-- A list of calls as bytes: "the same run also takes its calls as a list of records of four byte values, with equal answers."
use Rattle.std.specs.Prelude.{ℕ, List, [], ◌∷◌}
use Rattle.packing.specs.declared.Call.{Call}

-- four bytes a call, in order: kind, from, to, side
unfoldable pub bytes_of : List Call → List ℕ
bytes_of [] = []
bytes_of (c ∷ cs) = c.kind ∷ c.from ∷ c.to ∷ c.side ∷ bytes_of cs
