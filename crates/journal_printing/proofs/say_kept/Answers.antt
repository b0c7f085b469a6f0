-- What `say_kept` hands on is a text that may be printed, since its caller shows so.
use Rattle.journal_printing.specs.SaidOfJournals.{SaidOfJournals}
use Rattle.journal_printing.proofs.say_kept.Goals as goal

pub say-requires : goal.say-requires
say-requires c = SaidOfJournals.of_kept c.args.list.now c.requires
