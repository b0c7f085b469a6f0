-- `put_mask` meets its contract: the digits that the kit spells are those of the definition.
use mathlib.Core.Path.{subst}
use Rattle.text.specs.Written.{Writes}
use Rattle.text.proofs.Width.{mask-spelt}
use Rattle.text.proofs.put_mask.Goals as goal

pub returns : goal.returns
returns c =
    subst (λ l. Writes l c.args.room.now c.args.at c.put.result c.put.new.room)
    (mask-spelt c.args.m c.hex-k.result _ c.ranges.m.fits c.hex-k.ensures.len c.hex-k.ensures.digits)
    c.put.ensures
