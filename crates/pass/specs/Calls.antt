-- A list of calls, given as bytes.
use Rattle.std.specs.Prelude.{ℕ, ◌+◌, ◌*◌, List, [], ◌∷◌, get_or}
use Rattle.votes.specs.Call.{Call, call}

-- "The list is first given as bytes, four a call": kind, from, to, side. A rest of fewer than four bytes is no call.
abbrev pub calls : List ℕ → List Call
calls [] = []
calls (a ∷ []) = []
calls (a ∷ (b ∷ [])) = []
calls (a ∷ (b ∷ (c ∷ []))) = []
calls (a ∷ (b ∷ (c ∷ (d ∷ l)))) = call a b c d ∷ calls l

-- call i of a list of bytes
abbrev pub call_at : List ℕ → ℕ → Call
call_at l i = call (get_or l (4 * i) 0) (get_or l (4 * i + 1) 0) (get_or l (4 * i + 2) 0) (get_or l (4 * i + 3) 0)
