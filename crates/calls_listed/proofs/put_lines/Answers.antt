-- `put_lines` meets its contract: after i turns the lines of the first i calls stand in the room.
use Prim.Native.Nat.{◌/◌}
use mathlib.Core.Path.{◌≡◌, refl, ◌∙◌}
use native.Mathlib.Omega.{arith}
use lib.ListN.{length}
use Rattle.calls_listed.proofs.Ways.{rows_fit}
use Rattle.calls_listed.specs.Listed.{said_at, list_lines}
use Rattle.register.proofs.Rows.{no_row, row_more}
use Rattle.calls_listed.proofs.put_lines.Goals as goal

pub loop-i-init : goal.loop-i-init
loop-i-init c =
    let a = c.args in (refl, no_row (said_at a.list.now) a.room.now 0 (omega arith))

pub put_call-end-requires : goal.put_call-end-requires
put_call-end-requires c =
    let l = c.loop-i in omega (arith, c.requires, c.loop-i.invariant.1.place, rows_fit c.args.list.now c.loop-i.i)

pub loop-i-preserved : goal.loop-i-preserved
loop-i-preserved c =
    let l = c.loop-i in let p = c.put_call-end in (c.put_call-end.auto.room ∙ c.loop-i.invariant.0, row_more (said_at c.args.list.now) c.loop-i.i c.loop-i.invariant.1 c.put_call-end.ensures (omega arith))

pub shape_of-room : goal.shape_of-room
shape_of-room c =
    c.loop-i.invariant.0

pub returns : goal.returns
unfolding list_lines
returns c =
    let l = c.loop-i in let e : c.loop-i.i ≡ length c.args.list.now / 4 = omega arith in
    rw (← e) c.loop-i.invariant.1
