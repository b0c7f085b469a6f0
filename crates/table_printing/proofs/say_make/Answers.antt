-- What `say_make` hands on is a text that may be printed, since its caller shows so.
use Rattle.table_printing.specs.SaidOfTables.{SaidOfTables}
use Rattle.table_printing.proofs.say_make.Goals as goal

pub say-requires : goal.say-requires
say-requires c = SaidOfTables.of_make c.args.table.now c.requires.table_value c.requires.answer_value
