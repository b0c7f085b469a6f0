-- What `say_missing` hands on is a text that may be printed, since its caller shows so.
use Rattle.call_printing.specs.SaidOfCalls.{SaidOfCalls}
use Rattle.call_printing.proofs.say_missing.Goals as goal

pub say-requires : goal.say-requires
say-requires c = SaidOfCalls.of_missing c.args.faulty c.args.image.now c.args.list.now c.requires
