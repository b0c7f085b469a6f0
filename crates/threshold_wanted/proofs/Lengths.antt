-- How long what was expected is.
use Prim.Native.Nat.{◌≤◌}
use native.Mathlib.Omega.{arith}
use lib.ListN.{length}
use Rattle.leaflet.proofs.Lengths.{length-meaning}
use Rattle.threshold_grammar.specs.declared.Why.{Why}
use Rattle.threshold_grammar.specs.declared.Why.TheVariants.{LineEnd, Nothing, Member, Bracket, Other, Rule}
use Rattle.threshold_grammar.specs.declared.Why.TheVariants.{Sites as NoSites, Count as NoCount, Owner as NoOwner, Colon as NoColon, Threshold as NoThreshold, Of as NoOf}
use Rattle.threshold_wanted.specs.Wanted.{threshold_wanted}
use Rattle.text.specs.Text.{ascii}

pub length-wanted : (why : Why) → length (ascii (threshold_wanted why)) ≤ 200
length-wanted NoSites = omega arith
length-wanted NoCount = omega arith
length-wanted LineEnd = omega arith
length-wanted NoOwner = omega arith
length-wanted Nothing = omega arith
length-wanted NoColon = omega arith
length-wanted NoThreshold = omega arith
length-wanted NoOf = omega arith
length-wanted Member = omega arith
length-wanted Bracket = omega arith
length-wanted Other = omega arith
length-wanted (Rule r) = length-meaning r
