-- What `say_check` hands on is a text that may be printed, since its caller shows so.
use Rattle.table_printing.specs.SaidOfTables.{SaidOfTables}
use Rattle.table_printing.proofs.say_check.Goals as goal

pub say-requires : goal.say-requires
say-requires c = SaidOfTables.of_check c.args.image.now c.requires
