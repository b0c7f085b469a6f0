-- What `say_replay` hands on is a text that may be printed, since its caller shows so.
use Rattle.journal_printing.specs.SaidOfJournals.{SaidOfJournals}
use Rattle.journal_printing.proofs.say_replay.Goals as goal

pub say-requires : goal.say-requires
say-requires c = SaidOfJournals.of_replay c.args.faulty c.args.image.now c.args.journal.now c.requires
