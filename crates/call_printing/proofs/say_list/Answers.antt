-- What `say_list` hands on is a text that may be printed, since its caller shows so.
use Rattle.call_printing.specs.SaidOfCalls.{SaidOfCalls}
use Rattle.call_printing.proofs.say_list.Goals as goal

pub say-requires : goal.say-requires
say-requires c = SaidOfCalls.of_list c.args.list.now c.requires
