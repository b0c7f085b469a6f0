-- How long what was expected is.
use Prim.Native.Nat.{◌≤◌}
use native.Mathlib.Omega.{arith}
use lib.ListN.{length}
use Rattle.leaflet.proofs.Lengths.{length-meaning}
use Rattle.table_grammar.specs.declared.Why.{Why}
use Rattle.table_grammar.specs.declared.Why.TheVariants.{LineEnd, Nothing, Member, Further, Other, Rule}
use Rattle.table_grammar.specs.declared.Why.TheVariants.{Sites as NoSites, Count as NoCount, Owner as NoOwner, Colon as NoColon}
use Rattle.table_wanted.specs.Wanted.{wanted}
use Rattle.text.specs.Text.{ascii}

pub length-wanted : (why : Why) → length (ascii (wanted why)) ≤ 200
length-wanted NoSites = omega arith
length-wanted NoCount = omega arith
length-wanted LineEnd = omega arith
length-wanted NoOwner = omega arith
length-wanted Nothing = omega arith
length-wanted NoColon = omega arith
length-wanted Member = omega arith
length-wanted Further = omega arith
length-wanted Other = omega arith
length-wanted (Rule r) = length-meaning r
