-- `last_before` meets its contract: the words from k on have none.
use Prim.Native.Nat.{ℕ, ◌*◌, ◌≤◌, ◌<◌}
use mathlib.Core.Bool.{false}
use mathlib.Core.Path.{◌≡◌}
use Rattle.set_words.specs.Inner.{in_family}
use Rattle.picked_words.proofs.last_before.Given as goal

abbrev pub invariant-loop-k : goal.invariant-loop-k
invariant-loop-k l =
    (l.k ≤ l.w) × (l.w ≤ 64) × ((u : ℕ) → l.k * 64 ≤ u → u < l.w * 64 → in_family l.sets u ≡ false)

abbrev pub decreases-loop-k : goal.decreases-loop-k
decreases-loop-k l =
    l.k
