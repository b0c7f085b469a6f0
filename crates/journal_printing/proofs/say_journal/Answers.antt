-- What `say_journal` hands on is a text that may be printed, since its caller shows so.
use Rattle.journal_printing.specs.SaidOfJournals.{SaidOfJournals}
use Rattle.journal_printing.proofs.say_journal.Goals as goal

pub say-requires : goal.say-requires
say-requires c = SaidOfJournals.of_journal c.args.journal.now c.requires
