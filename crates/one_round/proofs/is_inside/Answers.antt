-- `is_inside` meets its contract: slice i stands at 63 v + 1 + i.
use Prim.Native.Nat.{ℕ, ◌<◌}
use mathlib.Core.Path.{sym, ap, ◌∙◌}
use native.Mathlib.Omega.{arith}
use Rattle.masks.specs.Mask.{within}
use Rattle.table.proofs.Table.{slice_at}
use Rattle.one_round.proofs.is_inside.Goals as goal

pub bounds-table-v : goal.bounds-table-v
bounds-table-v c =
    omega (arith, c.requires.listed_row.few-slices)

pub returns : goal.returns
returns c =
    let a = c.args in let few : a.i < 62 = omega (arith, c.requires.listed_row.few-slices) in
    c.within.ensures ∙ rw c.from.ensures (sym (ap (λ (x : ℕ). within x a.w) (slice_at a.table.now a.v a.i few)))
