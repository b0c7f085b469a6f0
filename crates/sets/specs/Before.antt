-- Blocking as it was before W-201: the answers of a table in memory, the owner counted.
use Rattle.std.specs.Prelude.{ℕ, not, List, eqb}
use Rattle.std.specs.Int.Bits.{bit_and}
use Rattle.ground.specs.Search.{every}
use Rattle.sets.specs.Slices.{Slices, slices_of}
use Rattle.table.specs.Table.{count_of, slice_of}

-- the rule as it was, the owner counted: "A set blocks site v if it meets every slice of v."
unfoldable pub owner_counted : List ℕ → Slices
unfolding every slices_of
owner_counted t = record {
  inside = (slices_of t).inside;
  deleted = (slices_of t).deleted;
  blocked = λ v w. every (count_of t v) (λ i. not (eqb (bit_and (slice_of t v i) w) 0));
}
