-- `is_quorum` meets its contract: each member of q below v has a slice inside q.
use Prim.Native.Nat.{ℕ, ◌<◌}
use mathlib.Core.Bool.{true}
use mathlib.Core.Path.{◌≡◌}
use Rattle.masks.specs.Mask.{◌∈◌}
use Rattle.sets.specs.Inner.Rows.{rules_of}
use Rattle.sets.proofs.is_quorum.Given as goal

abbrev pub invariant-loop-v : goal.invariant-loop-v
invariant-loop-v l =
    ((x : ℕ) → x < l.v → x ∈ l.q → (rules_of l.table).inside x l.q ≡ true)
