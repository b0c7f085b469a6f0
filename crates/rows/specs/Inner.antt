-- What the functions that look at one slice after the other promise.
use Rattle.std.specs.Prelude.{ℕ, ◌&&◌, not, eqb, ltb}
use Rattle.refusals.specs.First.{or_else, refuse}
use Rattle.refusals.specs.Check.{Check}
use Rattle.refusals.specs.declared.Refusal.TheVariants.{Slice, Order}
use Rattle.rows.specs.Row.{strange}

-- the owner's slice k, which is q, and the slice before it: 5, then 6
unfoldable pub behind_check : ℕ → ℕ → ℕ → ℕ → ℕ → ℕ → Check
unfolding strange
behind_check n owner place k before q =
    or_else (refuse (strange n owner q) (Slice place)) (refuse (not (eqb k 0) && not (ltb before q)) (Order place))
