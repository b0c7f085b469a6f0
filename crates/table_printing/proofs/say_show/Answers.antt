-- What `say_show` hands on is a text that may be printed, since its caller shows so.
use Rattle.table_printing.specs.SaidOfTables.{SaidOfTables}
use Rattle.table_printing.proofs.say_show.Goals as goal

pub say-requires : goal.say-requires
say-requires c = SaidOfTables.of_show c.args.image.now c.requires
