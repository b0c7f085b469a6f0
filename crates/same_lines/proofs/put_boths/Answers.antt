-- `put_boths` meets its contract: after v turns the lines of the first v sites stand in the room.
use Prim.Native.Nat.{◌+◌}
use mathlib.Core.Path.{◌≡◌, refl, ◌∙◌}
use native.Mathlib.Omega.{arith}
use Rattle.register.proofs.Rows.{no_row, row_more}
use Rattle.same_lines.proofs.Lines.{length-boths}
use Rattle.same_lines.specs.SameLines.{both_line}
use Rattle.same_lines.proofs.put_boths.Goals as goal

pub loop-v-init : goal.loop-v-init
loop-v-init c =
    let a = c.args in (refl, no_row (both_line a.a.now a.b.now) a.room.now a.at (omega (arith, c.requires)))

pub put_both-end-requires : goal.put_both-end-requires
put_both-end-requires c =
    let a = c.args in let l = c.loop-v in omega (arith, c.requires, c.loop-v.invariant.1.place, length-boths a.a.now a.b.now c.loop-v.v)

pub loop-v-preserved : goal.loop-v-preserved
loop-v-preserved c =
    let a = c.args in let l = c.loop-v in let p = c.put_both-end in
    (c.put_both-end.auto.room ∙ c.loop-v.invariant.0, row_more (both_line a.a.now a.b.now) c.loop-v.v c.loop-v.invariant.1 c.put_both-end.ensures (omega (arith, c.requires)))

pub shape_of-room : goal.shape_of-room
shape_of-room c =
    c.loop-v.invariant.0

pub returns : goal.returns
returns c =
    let l = c.loop-v in let e : c.loop-v.v ≡ 256 = omega arith in
    rw (← e) c.loop-v.invariant.1

pub returns-2 : goal.returns-2
returns-2 c =
    let a = c.args in let e : c.loop-v.v + 1 ≡ 256 = omega arith in
    rw (← e) (row_more (both_line a.a.now a.b.now) c.loop-v.v c.loop-v.invariant.1 c.put_both-end.ensures (omega (arith, c.requires)))
