-- What `say_made` hands on is a text that may be printed, since its caller shows so.
use Rattle.call_printing.specs.SaidOfCalls.{SaidOfCalls}
use Rattle.call_printing.proofs.say_made.Goals as goal

pub say-requires : goal.say-requires
say-requires c = SaidOfCalls.of_made c.args.text.now c.requires
