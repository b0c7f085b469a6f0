-- What `say_risk` hands on is a text that may be printed, since its caller shows so.
use Rattle.table_printing.specs.SaidOfTables.{SaidOfTables}
use Rattle.table_printing.proofs.say_risk.Goals as goal

pub say-requires : goal.say-requires
say-requires c = SaidOfTables.of_risk c.args.image.now c.requires
