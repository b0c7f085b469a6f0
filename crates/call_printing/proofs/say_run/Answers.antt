-- What `say_run` hands on is a text that may be printed, since its caller shows so.
use Rattle.call_printing.specs.SaidOfCalls.{SaidOfCalls}
use Rattle.call_printing.proofs.say_run.Goals as goal

pub say-requires : goal.say-requires
say-requires c = SaidOfCalls.of_run c.args.faulty c.args.image.now c.args.list.now c.requires
