-- `first_round` meets its contract: who is asked stays if it has a slice inside w, and then has its place, and goes if not.
use Prim.Native.Nat.{ℕ, ◌<◌}
use mathlib.Core.Bool.{false}
use mathlib.Core.Path.{◌≡◌}
use lib.Bits.{bit_and}
use lib.ListN.{length, get_or}
use Rattle.masks.specs.Mask.{all_below, ◌∈◌}
use Rattle.one_round.specs.Inner.Places.{Place}
use Rattle.one_round.proofs.Rounds.{SomeAsked}
use Rattle.sets.specs.Quorum.{round}
use Rattle.sets.specs.Inner.Rows.{of_sets, rules_of}
use Rattle.one_round.proofs.first_round.Given as goal

abbrev pub invariant-loop-rest : goal.invariant-loop-rest
invariant-loop-rest l =
    SomeAsked (bit_and l.w (all_below l.n)) (round (rules_of l.table).inside l.n l.w) (round (rules_of l.table).inside l.n l.w) l.rest l.stay × (length l.places ≡ 64)
    × ((u : ℕ) → u < l.n → u ∈ l.stay → (u ∈ l.rest → ⊥) → of_sets l.table u ≡ false → Place l.table l.w u (get_or l.places u 0))

abbrev pub decreases-loop-rest : goal.decreases-loop-rest
decreases-loop-rest l =
    l.rest
