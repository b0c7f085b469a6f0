-- `put_rows` meets its contract: one law for each way out.
use mathlib.Core.Path.{◌≡◌, refl, sym, ap}
use native.Mathlib.Omega.{arith}
use Rattle.table_shown.specs.Show.{row, rows}
use Prim.Native.Nat.{◌*◌, ◌≤◌, ◌<◌}
use lib.ListN.{length}
use Rattle.table.specs.Table.{site_of}
use Rattle.text.proofs.Written.{written-nothing}
use Rattle.ground.proofs.Pieces.{part_cut, length_part}
use Rattle.lines.proofs.Chain.{as-text}
use Rattle.members.proofs.Laws.{more, cat-none}
use Rattle.table_shown.proofs.Laws.{length-row}
use Rattle.table_shown.proofs.put_rows.Goals as goal

pub loop-v-init : goal.loop-v-init
loop-v-init c = (
  refl,
  omega arith,
  as-text (sym (cat-none (λ w. row w (site_of c.args.table.now w))))
      (record { place = omega arith; memory = sym (written-nothing _ _); inside = omega arith }),
)

pub put_row-end-requires : goal.put_row-end-requires
put_row-end-requires c =
    let a = c.args in let T = c.requires.table in let l = c.loop-v in let h : l.v < a.n = c.loop-v-test.true in let z : 63 * a.n ≤ length a.table.now = omega (arith, T.long) in
    let e = part_cut 63 c.loop-v.v a.table.now in record
    { m_len = rw e (length_part 63 c.loop-v.v a.n a.table.now h z); m_bound = rw e (T.few-slices c.loop-v.v h); v_bound = omega (arith, T.few-sites); at_in_bounds = omega (arith, T.few-sites) }

pub loop-v-preserved : goal.loop-v-preserved
loop-v-preserved c =
    let p = c.put_row-end in let a = c.args in let T = c.requires.table in let l = c.loop-v in let t = a.table.now in
    let h : l.v < a.n = c.loop-v-test.true in let w = as-text (ap (row c.loop-v.v) (part_cut 63 c.loop-v.v t)) c.put_row-end.ensures in (
      omega arith,
      omega (arith, w.place, length-row c.loop-v.v (site_of t c.loop-v.v) (omega (arith, T.few-sites)) (T.few-slices c.loop-v.v h)),
      more (λ w. row w (site_of t w)) c.loop-v.v c.loop-v.invariant.2 w (omega arith),
    )

pub returns : goal.returns
unfolding rows
returns c =
    let l = c.loop-v in let e : c.loop-v.v ≡ c.args.n = omega arith in
    rw e at c.loop-v.invariant.2
