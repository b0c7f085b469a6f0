-- What `desk make` says of a text.
use Rattle.std.specs.Prelude.{ℕ, Bool, true, false, List, [], ◌++◌, Result, Ok, Err}
use Rattle.lines.specs.Lines.{newline, line}
use Rattle.refusal_lines.specs.Refused.{refused}
use Rattle.table_grammar.specs.declared.Why.{Why}
use Rattle.table_grammar.specs.declared.Why.TheVariants.{LineEnd, Nothing, Member, Further, Other, Rule}
use Rattle.table_grammar.specs.declared.Why.TheVariants.{Sites as NoSites, Count as NoCount, Owner as NoOwner, Colon as NoColon}
use Rattle.table_made.specs.Made.{made}
use Rattle.table_made.specs.declared.Fault.{Fault}
use Rattle.table_made.specs.declared.Fault.TheVariants.{Line, Room}
use Rattle.table_wanted.specs.Wanted.{wanted}
use Rattle.text.specs.Text.{ascii, decimal}

-- a refusal "prints `refused N SITE`" before
abbrev pub opening : Why → List ℕ
opening NoSites = []
opening NoCount = []
opening LineEnd = []
opening NoOwner = []
opening Nothing = []
opening NoColon = []
opening Member = []
opening Further = []
opening Other = []
opening (Rule r) = refused r

-- `line L: ..`
unfoldable pub fault_lines : ℕ → Why → List ℕ
unfolding decimal
fault_lines place why = opening why ++ (ascii "line " ++ (decimal place ++ (ascii ": " ++ (ascii (wanted why) ++ newline))))

-- what is said by the answer: `sound N`, as `desk check` says of the table; or the fault. The desk lends room for 64 sites, so that 9 does not arise.
abbrev pub make_lines : Result ℕ Fault → List ℕ
make_lines (Ok n) = line (ascii "sound ") (decimal n)
make_lines (Err (Line place why)) = fault_lines place why
make_lines (Err Room) = []

unfoldable pub make_text : List ℕ → List ℕ
unfolding fault_lines line decimal made
make_text text = make_lines (made text 4032)

-- a table and a refusal are said on standard output; "a text that is none gets one line on standard error"
abbrev pub is_rule : Why → Bool
is_rule NoSites = false
is_rule NoCount = false
is_rule LineEnd = false
is_rule NoOwner = false
is_rule Nothing = false
is_rule NoColon = false
is_rule Member = false
is_rule Further = false
is_rule Other = false
is_rule (Rule r) = true

abbrev pub is_answer : Result ℕ Fault → Bool
is_answer (Ok n) = true
is_answer (Err (Line place why)) = is_rule why
is_answer (Err Room) = false
