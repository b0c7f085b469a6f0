-- `search` meets its contract: no set of the words below w is apart.
use Prim.Native.Nat.{ℕ, ◌*◌, ◌<◌}
use mathlib.Core.Bool.{false}
use mathlib.Core.Path.{◌≡◌}
use Rattle.sets.specs.Inner.Rows.{rules_of}
use Rattle.apart_words.specs.Inner.{apart_with}
use Rattle.apart_words.proofs.search.Given as goal

abbrev pub invariant-loop-w : goal.invariant-loop-w
invariant-loop-w l =
    (l.b < 4096) × ((u : ℕ) → u < l.w * 64 → apart_with (rules_of l.table) l.n l.b u ≡ false)
