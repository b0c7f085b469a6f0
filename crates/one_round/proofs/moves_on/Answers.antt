-- `moves_on` meets its contract: every slice before the place fails, old and new, so v has one inside exactly if one is found.
use Prim.Native.Nat.{ℕ, ◌≤◌, ◌<◌}
use mathlib.Core.Path.{sym, subst}
use native.Mathlib.Nat.{lt_of_lt_of_le}
use native.Mathlib.Omega.{arith}
use Rattle.one_round.proofs.Places.{passed_to, places-more}
use Rattle.sets.proofs.Rows.{listed-so, row-found, row-missed}
use Rattle.table.proofs.Table.{count_at}
use Rattle.table.specs.Table.{count_of}
use Rattle.one_round.proofs.moves_on.Goals as goal

pub overflow_cast-places : goal.overflow_cast-places
overflow_cast-places c =
    omega (arith, c.next_inside-i.ensures.upper_bound, c.requires.listed_row.few-slices)

pub returns-then-i-table : goal.returns-then-i-table
returns-then-i-table c =
    let a = c.args in let t = a.table.now in
    let k = c.next_inside-i in let l : c.next_inside-i.result < count_of t a.v = subst (λ (x : ℕ). c.next_inside-i.result < x) (sym (count_at t a.v)) c.if-i-table.true in
    let few : a.v < 64 = omega (arith, c.requires.rows.few-sites, c.requires.v_lt_n) in
    let before = c.requires.places.at a.v c.requires.v_lt_n c.requires.v (listed-so c.requires.listed_row) in record {
      value = sym (row-found c.requires.listed_row a.w c.next_inside-i.result l (c.next_inside-i.ensures.u_value l));
      places_2 = places-more t a.n c.next_inside-i.result few c.requires.places
          (record { slice = l; passed = passed_to t before c.next_inside-i.ensures.by_index });
    }

pub returns : goal.returns
returns c =
    let a = c.args in let t = a.table.now in
    let k = c.next_inside-i in let l : count_of t a.v ≤ c.next_inside-i.result = subst (λ (x : ℕ). x ≤ c.next_inside-i.result) (sym (count_at t a.v)) c.if-i-table.false in
    let before = c.requires.places.at a.v c.requires.v_lt_n c.requires.v (listed-so c.requires.listed_row) in record
    { value = sym (row-missed c.requires.listed_row a.w (λ i m. passed_to t before c.next_inside-i.ensures.by_index i (lt_of_lt_of_le m l))); places_2 = c.requires.places }
