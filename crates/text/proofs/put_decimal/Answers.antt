-- `put_decimal` meets its contract: the digits that the kit spells are those of the definition.
use mathlib.Core.Path.{subst}
use Rattle.text.specs.Written.{Writes}
use Rattle.text.proofs.Width.{decimal-spelt}
use Rattle.text.proofs.put_decimal.Goals as goal

pub returns : goal.returns
returns c =
    subst (λ l. Writes l c.args.room.now c.args.at c.put.result c.put.new.room)
    (decimal-spelt c.args.x c.decimal-k.result _ c.ranges.x.fits c.decimal-k.ensures.len c.decimal-k.ensures.digits)
    c.put.ensures
