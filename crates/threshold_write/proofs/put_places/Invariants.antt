-- After i turns the first i sets stand behind byte 7.
use mathlib.Core.Path.{◌≡◌}
use mathlib.Core.List.{◌++◌}
use Prim.Native.Nat.{◌+◌, ◌*◌}
use lib.ListN.{length, take, drop}
use Rattle.threshold_reading.specs.Lines.{sets_heard}
use Rattle.threshold_write.specs.Store.{set_places}
use Rattle.threshold_write.proofs.put_places.Given as goal

abbrev pub invariant-loop-i : goal.invariant-loop-i
invariant-loop-i l =
    (length l.b ≡ 512) × (l.b ≡ (take 8 l.initial.b ++ set_places (sets_heard l.t l.u) l.i) ++ drop (8 + 10 * l.i) l.initial.b)
