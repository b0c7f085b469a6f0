-- `strange_calls` meets its contract: after i turns those of the first i calls are counted.
-- call i is out of range
use Prim.Native.Nat.{ℕ}
use mathlib.Core.Bool.{Bool}
use mathlib.Core.List.{List}
use mathlib.Core.Path.{◌≡◌}
use Rattle.pass.specs.Calls.{call_at}
use Rattle.rules.specs.Rules.{out_of_range}
use Rattle.strange_calls.specs.Strange.{how_many}
use Rattle.strange_calls.proofs.strange_calls.Given as goal

abbrev out : ℕ → List ℕ → ℕ → Bool
out n list i = out_of_range n (call_at list i)

abbrev pub invariant-loop-i : goal.invariant-loop-i
invariant-loop-i l =
    l.count ≡ how_many l.i (out l.n l.list)
