-- `put_calls` meets its contract: after j turns the first j of the 500 bytes stand in the block.
use Prim.Native.Nat.{◌-◌, ◌≤◌}
use mathlib.Core.Path.{◌≡◌}
use lib.ListN.{length}
use lib.Seq.{paste}
use Rattle.journal_block.specs.Block.{call_bytes}
use Rattle.journal_calls.proofs.put_calls.Given as goal

abbrev pub invariant-loop-j : goal.invariant-loop-j
invariant-loop-j l =
    (l.j ≤ length l.calls) × (length l.b ≡ length l.initial.b) × (l.b ≡ paste l.initial.b 4 (call_bytes l.calls) l.j)

abbrev pub invariant-loop-j-2 : goal.invariant-loop-j-2
invariant-loop-j-2 l =
    (length l.calls ≤ l.j) × (l.j ≤ 500) × (length l.b ≡ length l.initial.b) × (l.b ≡ paste l.initial.b 4 (call_bytes l.calls) l.j)
