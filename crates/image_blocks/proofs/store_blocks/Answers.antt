-- `store_blocks` meets its contract: after i turns the room begins with the blocks of the first i sites, whose counts fit.
use Prim.Native.Nat.{ℕ, ◌+◌, ◌-◌, ◌*◌}
use mathlib.Core.Path.{refl, ap, ◌∙◌}
use native.Mathlib.Omega.{arith}
use borrow.Author.Rules.{rules}
use borrow.Rule.Slice.PartMut.{same_len_mid}
use Rattle.ground.proofs.Pieces.{part_cut}
use Rattle.site_block.specs.Block.{store}
use Rattle.image_blocks.proofs.Store.{stores-holds, stores-again, stores-done}
use Rattle.table.proofs.Exact.{checked-sites}
use Rattle.image_blocks.proofs.store_blocks.Goals as goal

pub loop-i-init : goal.loop-i-init
loop-i-init c =
    (omega arith, refl, stores-holds _ _ _)

pub store_block-requires : goal.store_block-requires
store_block-requires c =
    let t = c.args.table.now in let l = c.loop-i in let p = c.requires in let sound = checked-sites t c.args.n p.table_len (omega arith) p.n_bound p.table_value in record
    { m_len = search rules; b_len = search rules; m_bound = rw (part_cut 63 c.loop-i.i t) (sound.few-slices c.loop-i.i c.loop-i-test.true); i_bound = omega arith; n_bound = omega arith }

pub loop-i-preserved : goal.loop-i-preserved
loop-i-preserved c =
    let a = c.args in let l = c.loop-i in let b = c.store_block in (
      omega arith,
      same_len_mid {X = ℕ} (512 * c.loop-i.i) (512 * c.loop-i.i + 512 - 512 * c.loop-i.i) c.loop-i.room c.store_block.new.b c.store_block.auto.b ∙ c.loop-i.invariant.1,
      stores-again a.n a.table.now c.loop-i.room a.room.now _ c.loop-i.i c.loop-i.invariant.2 (c.store_block.ensures ∙ ap (store a.n c.loop-i.i) (part_cut 63 c.loop-i.i a.table.now)),
    )

pub returns : goal.returns
returns c =
    let a = c.args in let l = c.loop-i in stores-done a.n a.table.now c.loop-i.room a.room.now c.loop-i.i (omega arith) c.loop-i.invariant.2
