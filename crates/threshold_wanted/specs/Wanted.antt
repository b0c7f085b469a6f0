-- What was expected in a text of a table, where it is none.
use Prim.Native.String.{String}
use Rattle.leaflet.specs.Leaflet.{meaning}
use Rattle.threshold_grammar.specs.declared.Why.{Why}
use Rattle.threshold_grammar.specs.declared.Why.TheVariants.{LineEnd, Nothing, Member, Bracket, Other, Rule}
use Rattle.threshold_grammar.specs.declared.Why.TheVariants.{Sites as NoSites, Count as NoCount, Owner as NoOwner, Colon as NoColon}
use Rattle.threshold_grammar.specs.declared.Why.TheVariants.{Threshold as NoThreshold, Of as NoOf}

-- "what was expected there"; of a refusal "the meaning"
abbrev pub threshold_wanted : Why → String
threshold_wanted NoSites = "the word sites was expected"
threshold_wanted NoCount = "the number of sites was expected, 1 to 64"
threshold_wanted LineEnd = "the end of the line was expected"
threshold_wanted NoOwner = "the number of the next site was expected"
threshold_wanted Nothing = "nothing more was expected"
threshold_wanted NoColon = "a colon was expected"
threshold_wanted NoThreshold = "a threshold was expected"
threshold_wanted NoOf = "the word of was expected"
threshold_wanted Member = "the number of a site, an opening bracket or the end of the line was expected"
threshold_wanted Bracket = "the number of a site or a bracket was expected"
threshold_wanted Other = "another site was expected: this one stands in the set already"
threshold_wanted (Rule r) = meaning r
