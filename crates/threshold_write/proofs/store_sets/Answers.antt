-- The parts, written one after the other, are the block.
use mathlib.Core.Path.{◌∙◌}
use Rattle.threshold_reading.specs.Lines.{sets_heard}
use Rattle.threshold_write.proofs.Store.{store-puts}
use Rattle.threshold_write.proofs.store_sets.Goals as goal

pub returns : goal.returns
returns c =
    let h = c.put_head in let p = c.put_places in c.put_sums.ensures
    ∙ store-puts c.args.b.now (sets_heard c.args.t.now c.args.u) c.args.n c.args.u _ _ _ (c.put_head.auto.b ∙ c.requires.b_len) (c.put_places.auto.b ∙ (c.put_head.auto.b ∙ c.requires.b_len)) c.put_head.ensures
    c.put_places.ensures c.put_zeros.ensures
