-- What `say_same` hands on is a text that may be printed, since its caller shows so.
use Rattle.call_printing.specs.SaidOfCalls.{SaidOfCalls}
use Rattle.call_printing.proofs.say_same.Goals as goal

pub say-requires : goal.say-requires
say-requires c = SaidOfCalls.of_same c.args.a.now c.args.b.now c.requires
