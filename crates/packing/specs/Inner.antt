-- The calls put into a room of bytes.
use Rattle.std.specs.Prelude.{ℕ, zero, suc, ◌+◌, ◌*◌, Bool, true, false, cond, List, ltb, get_or, set}
use Rattle.packing.specs.declared.Call.{Call}

-- what a call past the end reads as
abbrev pub none : Call
none = record { kind = 0; from = 0; to = 0; side = 0 }

-- four bytes stored at 4 * i
abbrev pub stored : List ℕ → ℕ → Call → List ℕ
stored b i c = set (set (set (set b (4 * i) c.kind) (4 * i + 1) c.from) (4 * i + 2) c.to) (4 * i + 3) c.side

abbrev pub pick : Bool → List ℕ → List ℕ → List ℕ
pick true a b = a
pick false a b = b

-- the room with call i put in its place; past the end nothing changes
unfoldable pub put_at : List ℕ → ℕ → Call → List ℕ
put_at b i c = pick (ltb i 4096) (stored b i c) b

-- the room with the first n calls of the list put one after the other
unfoldable pub pack_to : List ℕ → List Call → ℕ → List ℕ
pack_to b cs zero = b
pack_to b cs (suc n) = put_at (pack_to b cs n) n (get_or cs n none)

-- how many calls of a list of n are put: none of a list that is too long
unfoldable pub packable : ℕ → ℕ
packable n = cond (ltb 4096 n) 0 n
