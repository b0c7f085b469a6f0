-- What is said of a text of calls.
use Rattle.std.specs.Prelude.{ℕ, ◌/◌, List, [], ◌++◌, Result, Ok, Err}
use Prim.Native.String.{String}
use Rattle.call_words.specs.declared.Wanted.{Wanted}
use Rattle.calls_text.specs.Reading.{read_text}
use Rattle.calls_text.specs.declared.Fault.{Fault}
use Rattle.leaflet.specs.Leaflet.{meaning}
use Rattle.lines.specs.Lines.{line}
use Rattle.refusal_lines.specs.Refused.{refused}
use Rattle.refusals.specs.declared.Refusal as Refusal
use Rattle.text.specs.Text.{ascii, decimal}

-- "what was expected there"; of a call too many, what the number means
unfoldable pub wanted_there : Wanted → String
wanted_there Wanted.Kind = "expected propose, vote, accept or a number, 0 to 255"
wanted_there Wanted.Number = "expected a number, 0 to 255"
wanted_there Wanted.Side = "expected drill or live"
wanted_there Wanted.End = "expected the end of the line"
wanted_there Wanted.Fewer = meaning Refusal.Refusal.List

-- `line L: ..`
unfoldable pub fault_line : Fault → List ℕ
unfolding line decimal wanted_there
fault_line fault = line (ascii "line ") (decimal fault.line ++ (ascii ": " ++ ascii (wanted_there fault.wanted)))

-- what is printed where fewer calls were wanted
abbrev pub if_fewer : Wanted → List ℕ → List ℕ
if_fewer Wanted.Kind text = []
if_fewer Wanted.Number text = []
if_fewer Wanted.Side text = []
if_fewer Wanted.End text = []
if_fewer Wanted.Fewer text = text

-- what is printed. A fault in the text prints nothing: its line goes to standard error. "a 4,097th is number 17: prints `refused 17 0` and `line L: `
-- with the meaning"
unfoldable pub made_lines : Result ℕ Fault → List ℕ
unfolding line decimal fault_line refused
made_lines (Ok n) = line (ascii "calls ") (decimal (n / 4))
made_lines (Err fault) = if_fewer fault.wanted (refused Refusal.Refusal.List ++ fault_line fault)

-- `desk calls`, of a text
unfoldable pub made_text : List ℕ → List ℕ
unfolding made_lines read_text
made_text text = made_lines (read_text text).answer
