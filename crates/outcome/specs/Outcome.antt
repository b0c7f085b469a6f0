-- The lines of a run: its passes, the state it ends in, and each call with its answer in the last pass.
use Rattle.std.specs.Prelude.{ℕ, ◌+◌, ◌*◌, List, ◌++◌, length, get_or}
use Rattle.call_lines.specs.CallLine.{said_call}
use Rattle.ground.specs.Pieces.{cat}
use Rattle.lines.specs.Lines.{line}
use Rattle.state_lines.specs.State.{state_lines}
use Rattle.text.specs.Text.{ascii, decimal, mask}
use Rattle.text.specs.Written.{Writes}

-- `call I A` and the call "as `desk list` shows it": A is call I's answer in the last pass
unfoldable pub call_line : ℕ → ℕ → ℕ → ℕ → ℕ → ℕ → List ℕ
unfolding decimal said_call
call_line i answer kind from to side = ascii "call " ++ (decimal i ++ (ascii " " ++ (decimal answer ++ (ascii " " ++ said_call kind from to side))))

-- one line a call: its answer, and its four bytes in the list
unfoldable pub call_lines : List ℕ → List ℕ → List ℕ
unfolding call_line cat
call_lines list answers =
    cat (λ i. call_line i (get_or answers i 0) (get_or list (4 * i) 0) (get_or list (4 * i + 1) 0) (get_or list (4 * i + 2) 0) (get_or list (4 * i + 3) 0))
    (length answers)

-- for n sites, of which those of F are faulty and those of `whole` intact: the passes, the state at the end, and the calls with the answers of the last pass
unfoldable pub end_lines : ℕ → ℕ → ℕ → ℕ → List ℕ → List ℕ → List ℕ → List ℕ
unfolding line decimal mask state_lines call_lines
end_lines F n whole passes s list answers =
    line (ascii "sites ") (decimal n)
    ++ (line (ascii "faulty ") (mask F)
    ++ (line (ascii "passes ") (decimal passes)
    ++ (state_lines n F whole s
    ++ call_lines list answers)))

-- these lines stand in a lent room, from its start up to `end`; the rest of it is as before
abbrev pub EndsIn : ℕ → ℕ → ℕ → ℕ → List ℕ → List ℕ → List ℕ → List ℕ → ℕ → List ℕ → Type 0
EndsIn F n whole passes s list answers before end after = Writes (end_lines F n whole passes s list answers) before 0 end after
