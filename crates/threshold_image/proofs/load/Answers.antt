-- `load` meets its contract: after i turns the room begins with the rows of the first i blocks.
use Prim.Native.Nat.{ℕ, ◌+◌, ◌-◌, ◌*◌}
use mathlib.Core.Path.{◌≡◌, refl, ap, ◌∙◌}
use native.Mathlib.Omega.{arith}
use borrow.Rule.Slice.PartMut.{same_len_mid}
use Rattle.ground.proofs.Pieces.{part_cut}
use Rattle.threshold_row.specs.Inner.Row.{sets_row}
use Rattle.threshold_image.proofs.Rows.{rows-zero, rows-again}
use Rattle.threshold_image.proofs.load.Goals as goal

pub loop-i-init : goal.loop-i-init
loop-i-init c =
    (omega arith, refl, rows-zero _ _)

pub loop-i-preserved : goal.loop-i-preserved
loop-i-preserved c =
    let a = c.args in let l = c.loop-i in let b = c.load_row in (
      omega arith,
      same_len_mid {X = ℕ} (63 * c.loop-i.i) (63 * c.loop-i.i + 63 - 63 * c.loop-i.i) c.loop-i.room b.new.m b.auto.m ∙ c.loop-i.invariant.1,
      rows-again a.image.now c.loop-i.room a.room.now _ c.loop-i.i c.loop-i.invariant.2 (b.ensures ∙ ap sets_row (part_cut 512 c.loop-i.i a.image.now)),
    )

pub shape_of-room : goal.shape_of-room
shape_of-room c =
    c.loop-i.invariant.1

pub returns : goal.returns
returns c =
    let l = c.loop-i in let e : c.loop-i.i ≡ c.args.n = omega arith in
    rw (← e) c.loop-i.invariant.2
