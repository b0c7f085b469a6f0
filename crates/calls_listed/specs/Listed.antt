-- A list of calls as text.
use Rattle.std.specs.Prelude.{ℕ, ◌+◌, ◌*◌, ◌/◌, cond, List, length, get_or}
use Rattle.call_lines.specs.CallLine.{said_call}
use Rattle.ground.specs.Pieces.{cat}
use Rattle.refusal_lines.specs.Refused.{explained}
use Rattle.refusals.specs.declared.Refusal as Refusal
use Rattle.run.specs.Run.{list_misshapen}

-- the line of call i
abbrev pub said_at : List ℕ → ℕ → List ℕ
said_at list i = said_call (get_or list (4 * i) 0) (get_or list (4 * i + 1) 0) (get_or list (4 * i + 2) 0) (get_or list (4 * i + 3) 0)

-- "a line a call"
unfoldable pub list_lines : List ℕ → List ℕ
unfolding said_call cat
list_lines list = cat (said_at list) (length list / 4)

-- `desk list`: the lines, or the refusal and what it means
unfoldable pub list_text : List ℕ → List ℕ
unfolding list_lines list_misshapen explained
list_text list = cond (list_misshapen (length list)) (explained Refusal.Refusal.List) (list_lines list)
