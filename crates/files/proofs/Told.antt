-- What stands before the end of a text that was written at the start of a room is that text.
use Prim.Native.Nat.{ℕ, ◌+◌}
use mathlib.Core.List.{List}
use mathlib.Core.Path.{◌≡◌}
use native.Mathlib.Omega.{arith}
use lib.ListN.{length, take, drop}
use lib.Seq.{take_at}
use Rattle.text.specs.Written.{written, Writes}

pub told : {T before after : List ℕ} {end : ℕ} → Writes T before 0 end after → take end after ≡ T
unfolding written
told {T} {before} {end = end} w = rw w.memory (take_at T (drop (0 + length T) before) end (omega (arith, w.place)))
