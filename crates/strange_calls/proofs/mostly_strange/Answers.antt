-- `mostly_strange` meets its contract: twice the count against the number of calls.
use Prim.Native.Nat.{ℕ, ◌*◌, ◌/◌}
use mathlib.Core.Path.{ap}
use native.Mathlib.Omega.{arith}
use lib.Dec.{ltb}
use lib.ListN.{length}
use Rattle.strange_calls.proofs.Counting.{strange-at-most}
use Rattle.strange_calls.specs.Strange.{mostly_strange}
use Rattle.strange_calls.proofs.mostly_strange.Goals as goal

pub overflow_mul-result : goal.overflow_mul-result
overflow_mul-result c =
    let a = c.args in record { fits = omega (arith, c.strange_calls.ensures, strange-at-most a.n a.list.now) }

pub returns : goal.returns
unfolding mostly_strange
returns c =
    ap (λ (x : ℕ). ltb (length c.args.list.now / 4) (2 * x)) c.strange_calls.ensures
