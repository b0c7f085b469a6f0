-- `pack` puts the calls one after the other: with i of them put, the room is as the first i put it.
use Rattle.std.proofs.Common.{◌≡◌}
use Rattle.packing.specs.Inner.{pack_to}
use Rattle.packing.proofs.pack.Given as goal

abbrev pub invariant-loop-i : goal.invariant-loop-i
invariant-loop-i l = l.room ≡ pack_to l.initial.room l.calls l.i
