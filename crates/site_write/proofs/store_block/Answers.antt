-- `store_block` meets its contract: the parts, written one after the other, are the block.
use mathlib.Core.Path.{◌∙◌}
use Rattle.site_write.proofs.Store.{store-puts}
use Rattle.site_write.proofs.store_block.Goals as goal

pub returns : goal.returns
returns c =
    let h = c.put_head in c.put_sums.ensures
    ∙ store-puts c.args.b.now c.args.m.now c.args.n c.args.i _ _ (c.put_head.auto.b ∙ c.requires.b_len) c.put_head.ensures
    c.put_places.ensures
