-- `has_listed` meets its contract: a slice is found inside u, or none is.
use Prim.Native.Nat.{zero-le}
use mathlib.Core.Logic.{⊎_elim}
use mathlib.Core.Path.{sym, ap, ◌∙◌}
use native.Mathlib.Nat.{lt_of_lt_of_le}
use lib.Dec.{ltb}
use borrow.Author.Tests.{ltb-true, ltb-false}
use Rattle.ground.proofs.Logic.{cases}
use Rattle.sets.proofs.Rows.{row-found, row-missed}
use Rattle.table.proofs.Table.{count_at}
use Rattle.table.specs.Table.{count_of}
use Rattle.sets.proofs.has_listed.Goals as goal

pub returns : goal.returns
returns c =
    let a = c.args in let t = a.table.now in
    let row = c.requires.listed_row in let k = c.next_inside in ap (ltb c.next_inside.result) (sym (count_at t a.v))
    ∙ ⊎_elim
    (λ e. let l = ltb-true c.next_inside.result (count_of t a.v) e in e ∙ sym (row-found row a.u c.next_inside.result l (c.next_inside.ensures.u_value l)))
    (λ e. let l = ltb-false c.next_inside.result (count_of t a.v) e in
    e ∙ sym (row-missed row a.u (λ i m. c.next_inside.ensures.by_index i zero-le (lt_of_lt_of_le m l))))
    (cases (ltb c.next_inside.result (count_of t a.v)))
