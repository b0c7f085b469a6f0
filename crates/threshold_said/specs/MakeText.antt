-- What `desk make` says of a text.
use Rattle.std.specs.Prelude.{ℕ, Bool, true, false, List, [], ◌++◌, Result, Ok, Err}
use Rattle.lines.specs.Lines.{newline, line}
use Rattle.refusal_lines.specs.Refused.{refused}
use Rattle.threshold_grammar.specs.declared.Why.{Why}
use Rattle.threshold_grammar.specs.declared.Why.TheVariants.{LineEnd, Nothing, Member, Bracket, Other, Rule}
use Rattle.threshold_grammar.specs.declared.Why.TheVariants.{Sites as NoSites, Count as NoCount, Owner as NoOwner, Colon as NoColon}
use Rattle.threshold_grammar.specs.declared.Why.TheVariants.{Threshold as NoThreshold, Of as NoOf}
use Rattle.threshold_made.specs.Made.{threshold_made}
use Rattle.threshold_made.specs.declared.Fault.{Fault}
use Rattle.threshold_made.specs.declared.Fault.TheVariants.{Line, Room}
use Rattle.threshold_wanted.specs.Wanted.{threshold_wanted}
use Rattle.text.specs.Text.{ascii, decimal}

-- a refusal "prints `refused N SITE`" before
abbrev pub threshold_opening : Why → List ℕ
threshold_opening NoSites = []
threshold_opening NoCount = []
threshold_opening LineEnd = []
threshold_opening NoOwner = []
threshold_opening Nothing = []
threshold_opening NoColon = []
threshold_opening NoThreshold = []
threshold_opening NoOf = []
threshold_opening Member = []
threshold_opening Bracket = []
threshold_opening Other = []
threshold_opening (Rule r) = refused r

-- `line L: ..`
unfoldable pub threshold_fault_lines : ℕ → Why → List ℕ
unfolding decimal
threshold_fault_lines place why = threshold_opening why ++ (ascii "line " ++ (decimal place ++ (ascii ": " ++ (ascii (threshold_wanted why) ++ newline))))

-- what is said by the answer: `sound N`, as `desk check` says of the table; or the fault. The desk lends room for 64 sites, so that 9 does not arise.
abbrev pub threshold_make_lines : Result ℕ Fault → List ℕ
threshold_make_lines (Ok n) = line (ascii "sound ") (decimal n)
threshold_make_lines (Err (Line place why)) = threshold_fault_lines place why
threshold_make_lines (Err Room) = []

unfoldable pub threshold_make_text : List ℕ → List ℕ
unfolding threshold_fault_lines line decimal threshold_made
threshold_make_text text = threshold_make_lines (threshold_made text 32768)

-- a table and a refusal are said on standard output; "a text that is none gets one line on standard error"
abbrev pub threshold_is_rule : Why → Bool
threshold_is_rule NoSites = false
threshold_is_rule NoCount = false
threshold_is_rule LineEnd = false
threshold_is_rule NoOwner = false
threshold_is_rule Nothing = false
threshold_is_rule NoColon = false
threshold_is_rule NoThreshold = false
threshold_is_rule NoOf = false
threshold_is_rule Member = false
threshold_is_rule Bracket = false
threshold_is_rule Other = false
threshold_is_rule (Rule r) = true

abbrev pub threshold_is_answer : Result ℕ Fault → Bool
threshold_is_answer (Ok n) = true
threshold_is_answer (Err (Line place why)) = threshold_is_rule why
threshold_is_answer (Err Room) = false
