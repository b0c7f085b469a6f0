-- `goes_listed` meets its contract: the first slice inside w is found, or none is.
use Prim.Native.Nat.{ℕ, zero-le, ◌≤◌, ◌<◌}
use mathlib.Core.Path.{refl, sym, subst}
use native.Mathlib.Nat.{lt_of_lt_of_le}
use native.Mathlib.Omega.{arith}
use Rattle.ground.proofs.Logic.{clash}
use Rattle.one_round.proofs.Places.{placed}
use Rattle.sets.proofs.Rows.{row-found, row-missed}
use Rattle.table.proofs.Table.{count_at}
use Rattle.table.specs.Table.{count_of}
use Rattle.one_round.proofs.goes_listed.Goals as goal

pub overflow_cast-places : goal.overflow_cast-places
overflow_cast-places c =
    omega (arith, c.next_inside-first.ensures.upper_bound, c.requires.listed_row.few-slices)

pub returns-then-first-table : goal.returns-then-first-table
returns-then-first-table c =
    let a = c.args in let t = a.table.now in
    let l : c.next_inside-first.result < count_of t a.v = subst (λ (x : ℕ). c.next_inside-first.result < x) (sym (count_at t a.v)) c.if-first-table.true in
    let few : a.v < 64 = omega (arith, c.requires.rows.few-sites, c.requires.v_lt_n) in
    let f = row-found c.requires.listed_row a.w c.next_inside-first.result l (c.next_inside-first.ensures.u_value l) in record
    { value = rw f refl; placed = placed t c.requires.places_len few (λ s e. record { slice = l; passed = λ i h. c.next_inside-first.ensures.by_index i zero-le h }) }

pub returns-else-first-table : goal.returns-else-first-table
returns-else-first-table c =
    let a = c.args in let t = a.table.now in
    let l : count_of t a.v ≤ c.next_inside-first.result = subst (λ (x : ℕ). x ≤ c.next_inside-first.result) (sym (count_at t a.v)) c.if-first-table.false in
    let few : a.v < 64 = omega (arith, c.requires.rows.few-sites, c.requires.v_lt_n) in
    let f = row-missed c.requires.listed_row a.w (λ i m. c.next_inside-first.ensures.by_index i zero-le (lt_of_lt_of_le m l)) in record
    { value = rw f c.single.ensures; placed = placed t c.requires.places_len few (λ s e. absurd (clash e f)) }
