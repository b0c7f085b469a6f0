-- `load_blocks` meets its contract: after i turns the room begins with the sites of the first i blocks.
use Prim.Native.Nat.{ℕ, ◌+◌, ◌-◌, ◌*◌}
use mathlib.Core.Path.{refl, ap, ◌∙◌}
use native.Mathlib.Omega.{arith}
use borrow.Rule.Slice.PartMut.{same_len_mid}
use Rattle.ground.proofs.Pieces.{part_cut}
use Rattle.site_block.specs.Block.{load}
use Rattle.image_blocks.proofs.Load.{loads-zero, loads-again}
use Rattle.image_blocks.proofs.load_blocks.Goals as goal

pub loop-i-init : goal.loop-i-init
loop-i-init c =
    (omega arith, refl, loads-zero _ _)

pub loop-i-preserved : goal.loop-i-preserved
loop-i-preserved c =
    let a = c.args in let l = c.loop-i in let b = c.load_block in (
      omega arith,
      same_len_mid {X = ℕ} (63 * c.loop-i.i) (63 * c.loop-i.i + 63 - 63 * c.loop-i.i) c.loop-i.room c.load_block.new.m c.load_block.auto.m ∙ c.loop-i.invariant.1,
      loads-again a.image.now c.loop-i.room a.room.now _ c.loop-i.i c.loop-i.invariant.2 (c.load_block.ensures ∙ ap load (part_cut 512 c.loop-i.i a.image.now)),
    )
