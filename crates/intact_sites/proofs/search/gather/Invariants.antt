-- `gather` meets its contract: the sets outside the quorums behind rest are looked at.
use Prim.Native.Nat.{◌<◌}
use mathlib.Core.Bool.{true}
use mathlib.Core.Path.{◌≡◌}
use Rattle.masks.specs.Mask.{minus, all_below, ◌⊆◌}
use Rattle.sets.specs.Inner.Rows.{rules_of}
use Rattle.sets.specs.Quorum.{quorum}
use Rattle.verdicts.specs.Inner.{Gathered}
use Rattle.known_pairs.specs.Inner.{Pairs}
use Rattle.intact_sites.proofs.search.gather.Given as goal

abbrev pub invariant-loop-rest : goal.invariant-loop-rest
invariant-loop-rest l =
    (l.rest < 4096) × Pairs (rules_of l.table) l.n l.pairs × Gathered (rules_of l.table) l.n (minus (all_below l.n) l.left) (minus (all_below l.n) l.rest) l.set
    × ((l.rest ≡ 0 → ⊥) → (quorum (rules_of l.table).inside l.n l.rest ≡ true) × (l.rest ⊆ l.left))

abbrev pub decreases-loop-rest : goal.decreases-loop-rest
decreases-loop-rest l =
    l.rest
