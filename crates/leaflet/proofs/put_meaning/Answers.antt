-- `put_meaning` meets its contract: the words fit, since none of the leaflet's are longer than 200 bytes.
use mathlib.Core.Path.{ap}
use native.Mathlib.Omega.{arith}
use lib.ListN.{length}
use Rattle.leaflet.proofs.Lengths.{length-meaning}
use Rattle.leaflet.proofs.put_meaning.Goals as goal

pub put-requires : goal.put-requires
put-requires c = omega (arith, ap length c.meaning.ensures, length-meaning c.args.r)
