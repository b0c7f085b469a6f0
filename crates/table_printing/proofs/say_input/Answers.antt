-- What `say_input` hands on is a text that may be printed, since its caller shows so.
use Rattle.table_printing.specs.SaidOfTables.{SaidOfTables}
use Rattle.table_printing.proofs.say_input.Goals as goal

pub say-requires : goal.say-requires
say-requires c = SaidOfTables.of_input c.args.input.now c.requires
