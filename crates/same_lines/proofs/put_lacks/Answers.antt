-- `put_lacks` meets its contract: after i turns the lines of the first i calls stand in the room.
use Prim.Native.Nat.{◌/◌}
use mathlib.Core.Path.{◌≡◌, refl, ◌∙◌}
use native.Mathlib.Omega.{arith}
use lib.ListN.{length}
use Rattle.register.proofs.Rows.{no_row, row_more}
use Rattle.same_lines.proofs.Lines.{length-lacks}
use Rattle.same_lines.specs.SameLines.{lack_line, lack_lines}
use Rattle.same_lines.proofs.put_lacks.Goals as goal

pub loop-i-init : goal.loop-i-init
loop-i-init c =
    let a = c.args in (refl, no_row (lack_line a.word.now a.a.now a.b.now) a.room.now a.at (omega (arith, c.requires.a_in_bounds)))

pub put_lack-end-requires : goal.put_lack-end-requires
put_lack-end-requires c =
    let a = c.args in let l = c.loop-i in let z = length-lacks a.word.now a.a.now a.b.now c.loop-i.i c.requires.word_len_bound in record
    { at_in_bounds = omega (arith, c.requires.a_in_bounds, c.loop-i.invariant.1.place); word_len_bound = c.requires.word_len_bound; i_in_bounds = omega arith }

pub loop-i-preserved : goal.loop-i-preserved
loop-i-preserved c =
    let a = c.args in let l = c.loop-i in let p = c.put_lack-end in (
      c.put_lack-end.auto.room ∙ c.loop-i.invariant.0,
      row_more (lack_line a.word.now a.a.now a.b.now) c.loop-i.i c.loop-i.invariant.1 c.put_lack-end.ensures (omega (arith, c.requires.a_in_bounds)),
    )

pub shape_of-room : goal.shape_of-room
shape_of-room c =
    c.loop-i.invariant.0

pub returns : goal.returns
unfolding lack_lines
returns c =
    let l = c.loop-i in let e : c.loop-i.i ≡ length c.args.a.now / 4 = omega arith in
    rw (← e) c.loop-i.invariant.1
