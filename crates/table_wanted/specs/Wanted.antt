-- What was expected in a text of a table, where it is none.
use Prim.Native.String.{String}
use Rattle.leaflet.specs.Leaflet.{meaning}
use Rattle.table_grammar.specs.declared.Why.{Why}
use Rattle.table_grammar.specs.declared.Why.TheVariants.{LineEnd, Nothing, Member, Further, Other, Rule}
use Rattle.table_grammar.specs.declared.Why.TheVariants.{Sites as NoSites, Count as NoCount, Owner as NoOwner, Colon as NoColon}

-- "what was expected there"; of a refusal "the meaning"
abbrev pub wanted : Why → String
wanted NoSites = "the word sites was expected"
wanted NoCount = "the number of sites was expected, 1 to 64"
wanted LineEnd = "the end of the line was expected"
wanted NoOwner = "the number of the next site was expected"
wanted Nothing = "nothing more was expected"
wanted NoColon = "a colon was expected"
wanted Member = "the number of a site was expected"
wanted Further = "the number of a site, a bar or the end of the line was expected"
wanted Other = "another site was expected: this one stands in the group already"
wanted (Rule r) = meaning r
